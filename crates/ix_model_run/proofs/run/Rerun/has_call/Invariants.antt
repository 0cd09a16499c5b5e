use Rattle.std.proofs.Common.{◌≡◌}
use Rattle.std.specs.List.{list_any, range_with_len}
use Rattle.ix_replays.specs.Run.{Run, has_call}
use Rattle.ix_model_run.specs.Standing.{IsAt, tasks_of_each}
use Rattle.ix_model_run.proofs.run.Rerun.has_call.Given as goal

-- whether one of the lanes so far has a call left
abbrev pub invariant-loop-lane : goal.invariant-loop-lane
invariant-loop-lane g l = (run : Run) → IsAt run l.self → l.has ≡ list_any (has_call g.N.Naming.name_of (tasks_of_each g.N.Naming.name_of l.lanes) run) (range_with_len 0 l.lane)
