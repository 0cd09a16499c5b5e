use Rattle.std.proofs.Common.{◌<◌, ◌∷◌, ◌++◌, arith}
use Rattle.std.proofs.lemmas.List.{map-append}
use Rattle.ix_plan.specs.declared.plan.Step.TheVariants.{Build, Poll, Ask}
use Rattle.ix_jobs.specs.Made.{made_of}
use Rattle.ix_lanes.specs.Tasks.{task_of, tasks_of}
use Rattle.ix_one_lane.specs.Sees.{one_lane}
use Rattle.ix_one_lane.proofs.Runs.{of_run}
use Rattle.ix_one_lane.proofs.laws.asks_see_builds.Goals as goal

pub returns : goal.returns
returns c name_of before behind plan query turns opening order flags run naming accepted sound none runs =
    let b = c.given.ensures in
    let steps = before ++ Build plan ∷ Poll ∷ Ask query ∷ behind in
    let one : 0 < 1 = omega arith in
    of_run b name_of steps turns opening naming accepted sound (made_of name_of plan) query (tasks_of name_of behind) (tasks_of name_of before)
    (map-append (task_of name_of) before (Build plan ∷ Poll ∷ Ask query ∷ behind)) order flags run none
    (b.comes name_of (one_lane steps turns) opening order flags run runs) (b.ended name_of (one_lane steps turns) opening order flags run 0 runs one)
