use Rattle.std.proofs.Common.{drop}
use Rattle.ix_replays.specs.Run.{Run, run_from}
use Rattle.ix_model_run.specs.Standing.{IsAt, tasks_of_each}
use Rattle.ix_model_run.proofs.Running.{IsLeft}
use Rattle.ix_model_run.proofs.run.Rerun.run.Given as goal

-- what is left of the run
abbrev pub invariant-loop-i : goal.invariant-loop-i
invariant-loop-i g l = (run : Run) → IsAt run l.initial.self
    → IsLeft g.N.Naming.name_of (tasks_of_each g.N.Naming.name_of l.lanes) (run_from g.N.Naming.name_of (tasks_of_each g.N.Naming.name_of l.lanes) run l.order l.flags) l.self (drop l.i l.order) (drop l.i l.flags)
