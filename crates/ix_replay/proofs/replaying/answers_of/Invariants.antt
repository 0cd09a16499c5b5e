use Rattle.std.proofs.Common.{◌≡◌, ℕ, map}
use Rattle.std.specs.List.{AllByRecursion}
use Rattle.ix_lanes.specs.Progress.{settled}
use Rattle.ix_model.specs.Units.{Units}
use Rattle.ix_seats.specs.Seated.{Seated}
use Rattle.ix_seats.specs.Seats.{IsSeat}
use Rattle.ix_replay.proofs.replaying.answers_of.Given as goal

-- the answers are those of the seats so far
abbrev pub invariant-loop-seat : goal.invariant-loop-seat
invariant-loop-seat l = (seen : ℕ → Units) → AllByRecursion (IsSeat seen) l.yielded → l.answers.items ≡ map (λ (seat : Seated). (settled seen seat.lane.progress).answers) l.yielded
