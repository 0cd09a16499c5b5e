-- Steps that keep a script's rules and limits may be a lane's.
use Rattle.std.proofs.Common.{List, [], ◌∷◌}
use Rattle.std.specs.List.{AllByRecursion}
use Rattle.ix_plan.specs.declared.plan.Step.{Step}
use Rattle.ix_plan.specs.declared.plan.Step.TheVariants as step
use Rattle.ix_plan.specs.declared.plan.UnitPlan.{UnitPlan}
use Rattle.ix_plan.specs.Keeps.{IsStep, IsShortUnit}
use Rattle.ix_jobs.specs.Rules.{HasRoom}
use Rattle.ix_lanes.specs.Rules.{IsReady}

module _ (room : (plan : UnitPlan) → IsShortUnit plan → HasRoom plan) where
  ready : (one : Step) → IsStep one → IsReady one
  ready (step.Build plan) is = (is.0, room plan is.1)
  ready (step.Remove output) is = tt
  ready step.Poll is = tt
  ready step.Refresh is = tt
  ready (step.Ask query) is = tt
  ready step.Release is = tt
  ready step.Collect is = tt

  pub all_ready : (steps : List Step) → AllByRecursion IsStep steps → AllByRecursion IsReady steps
  all_ready [] all = tt
  all_ready (one ∷ steps) all = (ready one all.0, all_ready steps all.1)
