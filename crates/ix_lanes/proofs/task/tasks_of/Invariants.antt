use Rattle.std.proofs.Common.{◌≡◌, map, take}
use Rattle.ix_lanes.specs.Tasks.{task_of}
use Rattle.ix_lanes.specs.Views.{shown_task}
use Rattle.ix_lanes.proofs.task.tasks_of.Given as goal

abbrev pub invariant-loop-step : goal.invariant-loop-step
invariant-loop-step g l = map shown_task l.tasks.items ≡ map (task_of g.N.Naming.name_of) (take l.step-index l.steps)
