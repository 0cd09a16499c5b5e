-- What a lane may be made of.
use Rattle.ix_plan.specs.declared.plan.Step.{Step}
use Rattle.ix_plan.specs.declared.plan.Step.TheVariants as step
use Rattle.ix_plan.specs.Keeps.{IsUnitPlan}
use Rattle.ix_jobs.specs.Rules.{HasRoom}
use Rattle.std.specs.Prelude.{◌+◌, ◌<◌, ◌^◌}
use Rattle.ix_lanes.specs.declared.doing.Doing.{Doing}
use Rattle.ix_lanes.specs.declared.doing.Doing.TheVariants.{Begun, Putting, Staged, Importing}

-- a build's plan keeps its rules and has room
abbrev pub IsReady : Step → Type 0
IsReady (step.Build plan) = IsUnitPlan plan × HasRoom plan
IsReady (step.Remove output) = Unit {0}
IsReady step.Poll = Unit {0}
IsReady step.Refresh = Unit {0}
IsReady (step.Ask query) = Unit {0}
IsReady step.Release = Unit {0}
IsReady step.Collect = Unit {0}

-- a u64 counts the files that are put, or the records that are loaded
abbrev pub IsCounted : Doing → Type 0
IsCounted Begun = Unit {0}
IsCounted (Putting files) = files < 2 ^ 64
IsCounted Staged = Unit {0}
IsCounted (Importing mark records) = records < 2 ^ 64

-- one more can be counted
abbrev pub CountsOn : Doing → Type 0
CountsOn Begun = Unit {0}
CountsOn (Putting files) = files + 1 < 2 ^ 64
CountsOn Staged = Unit {0}
CountsOn (Importing mark records) = records + 1 < 2 ^ 64
