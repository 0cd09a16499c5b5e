use Rattle.std.proofs.Common.{◌<◌, ℕ, List, [], length}
use Rattle.ix_lanes.specs.Tasks.{Task}
use Rattle.ix_replays.specs.Run.{Run}
use Rattle.ix_counts.specs.Counting.{AreCounted}
use Rattle.ix_turn_order.specs.Order.{IsReplaying}
use Rattle.ix_turn_order.proofs.replaying.run_lane.Given as goal

abbrev pub invariant-loop-event : goal.invariant-loop-event
invariant-loop-event g l = record {
  can : g.S.Stepper.can_step l.stepper;
  turns : (first : _) (tasks : List (List Task)) (start : Run) (whole : List ℕ) → l.lane < length tasks → IsReplaying g.S.Stepper.name_of tasks (λ (run : Run). g.S.Stepper.stands l.initial.stepper tasks run × g.S.Stepper.leaves first start l.initial.stepper run) start whole [] l.lane
      → IsReplaying g.S.Stepper.name_of tasks (λ (run : Run). g.S.Stepper.stands l.stepper tasks run × g.S.Stepper.leaves first start l.stepper run) start whole [] l.lane;
  counted : AreCounted (g.S.Stepper.events l.initial.stepper) (g.S.Stepper.counts l.initial.stepper) (g.S.Stepper.events l.stepper) (g.S.Stepper.counts l.stepper);
}
