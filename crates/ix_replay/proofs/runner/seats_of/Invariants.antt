use Rattle.std.proofs.Common.{◌≡◌, ℕ, None, map}
use Rattle.std.specs.List.{AllByRecursion}
use Rattle.ix_lanes.specs.Views.{Under}
use Rattle.ix_model.specs.Units.{Units}
use Rattle.ix_seats.specs.Seats.{IsSeat}
use Rattle.ix_replay.proofs.runner.seats_of.Given as goal

-- the seats are those of the lanes so far
abbrev pub invariant-loop-lane : goal.invariant-loop-lane
invariant-loop-lane l = record {
  lanes : map (λ seat. seat.lane) l.seats.items ≡ l.yielded;
  sit : (seen : ℕ → Units) → AllByRecursion (λ (lane : Under). lane.progress.held ≡ None) l.yielded → AllByRecursion (IsSeat seen) l.seats.items;
}
