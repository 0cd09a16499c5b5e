use Rattle.std.proofs.Common.{◌≡◌, map, take}
use Rattle.std.specs.List.{enumerate_from}
use Rattle.ix_replays.specs.Run.{Run, progress_of}
use Rattle.ix_model_run.specs.Standing.{IsAt, tasks_of_each}
use Rattle.ix_model_run.proofs.run.Rerun.answers.Given as goal

-- the answers of the lanes so far
abbrev pub invariant-loop-lane : goal.invariant-loop-lane
invariant-loop-lane g l = (run : Run) → IsAt run l.self → l.answers.items ≡ map (λ lane. (progress_of run lane.0 lane.1).answers) (enumerate_from 0 (tasks_of_each g.N.Naming.name_of (take l.lane l.lanes)))
