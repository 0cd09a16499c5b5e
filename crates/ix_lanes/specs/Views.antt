-- What a lane's values in code stand for.
use Rattle.std.specs.Prelude.{ℕ, List}
use Rattle.ix_types.specs.Row.{text_cmp}
use Rattle.ix_model.specs.SortedSet.{sorted_set}
use Rattle.ix_lookups.specs.Loaded.{Loaded, loaded_names}
use Rattle.ix_jobs.specs.Made.{shown}
use Rattle.ix_lanes.specs.declared.answered.Answered.{Answered}
use Rattle.ix_lanes.specs.declared.task.Task as code
use Rattle.ix_lanes.specs.declared.task.Task.TheVariants as codes
use Rattle.ix_lanes.specs.Tasks.{Task, Build, Remove, Poll, Refresh, Ask, Release, Collect}
use Rattle.ix_lanes.specs.Progress.{Progress}

abbrev pub shown_task : code.Task → Task
shown_task (codes.Build job) = Build (shown job)
shown_task (codes.Remove output) = Remove output
shown_task codes.Poll = Poll
shown_task codes.Refresh = Refresh
shown_task (codes.Ask query) = Ask query
shown_task codes.Release = Release
shown_task codes.Collect = Collect

-- answers, and how many more there is room for
pub record Given : Type 0 where
  pub answers : List Answered
  pub room : ℕ

-- a lane's progress, and the bodies of the records that its asks loaded
pub record Under : Type 0 where
  pub progress : Progress
  pub bodies : Loaded

-- the names under which bodies are loaded, rising
abbrev pub rising_names : Loaded → List (List ℕ)
rising_names bodies = sorted_set text_cmp (loaded_names bodies)
