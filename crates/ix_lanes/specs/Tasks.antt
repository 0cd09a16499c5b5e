-- What the steps of a lane ask of it: each build with what its job writes.
use Rattle.std.specs.Prelude.{ℕ, List, [], ◌∷◌, map}
use Rattle.ix_types.specs.declared.row.Query.{Query}
use Rattle.ix_plan.specs.declared.plan.Step.{Step}
use Rattle.ix_plan.specs.declared.plan.Step.TheVariants as step
use Rattle.ix_lanes.specs.declared.doing.Kind.{Kind}
use Rattle.ix_lanes.specs.declared.doing.Kind.TheVariants as kind
use Rattle.ix_jobs.specs.Made.{Made, made_of}

pub data Task : Type 0 where
  Build : Made → Task
  Remove : List ℕ → Task
  Poll : Task
  Refresh : Task
  Ask : Query → Task
  Release : Task
  Collect : Task

-- the kind of the task under way
abbrev pub kind_of : List Task → Kind
kind_of [] = kind.Ended
kind_of (Build job ∷ tasks) = kind.Build
kind_of (Remove output ∷ tasks) = kind.Remove
kind_of (Poll ∷ tasks) = kind.Poll
kind_of (Refresh ∷ tasks) = kind.Refresh
kind_of (Ask query ∷ tasks) = kind.Ask
kind_of (Release ∷ tasks) = kind.Release
kind_of (Collect ∷ tasks) = kind.Collect

module _ (name_of : List ℕ → List ℕ) where
  abbrev pub task_of : Step → Task
  task_of (step.Build plan) = Build (made_of name_of plan)
  task_of (step.Remove output) = Remove output
  task_of step.Poll = Poll
  task_of step.Refresh = Refresh
  task_of (step.Ask query) = Ask query
  task_of step.Release = Release
  task_of step.Collect = Collect

  abbrev pub tasks_of : List Step → List Task
  tasks_of steps = map task_of steps
