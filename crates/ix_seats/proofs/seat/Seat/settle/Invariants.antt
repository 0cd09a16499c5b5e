use Rattle.std.proofs.Common.{◌≡◌, ℕ, length}
use Rattle.ix_model.specs.Units.{Units}
use Rattle.ix_lanes.specs.Progress.{settled}
use Rattle.ix_seats.specs.Seats.{AreLeft, IsSeat}
use Rattle.ix_seats.proofs.seat.Seat.settle.Given as goal

-- the seat still fits, what its lane settles to is what it settled to, and the tasks left are those behind some in front
abbrev pub invariant-loop-alloc : goal.invariant-loop-alloc
invariant-loop-alloc l = record {
  settles : (seen : ℕ → Units) → IsSeat seen l.initial.self → settled seen l.self.lane.progress ≡ settled seen l.initial.self.lane.progress;
  seat : (seen : ℕ → Units) → IsSeat seen l.initial.self → IsSeat seen l.self;
  left : AreLeft l.initial.self.lane.progress.tasks l.self.lane.progress.tasks;
}

abbrev pub decreases-loop-alloc : goal.decreases-loop-alloc
decreases-loop-alloc l = length l.self.lane.progress.tasks
