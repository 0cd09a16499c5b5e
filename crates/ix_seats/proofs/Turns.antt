-- The turn of a lane is an ask exactly where its first task is one.
use Rattle.std.proofs.Common.{◌≡◌, List, [], ◌∷◌, Option, Some, None, option_map, refl}
use Rattle.std.specs.Option.{option_and_then}
use Rattle.std.specs.List.{slice_get}
use Rattle.ix_record.specs.declared.body.Body.{Body}
use Rattle.ix_jobs.specs.Made.{Made}
use Rattle.ix_lanes.specs.Calls.{put_or_stage, build_turn, poll_turn, task_turn, next_turn}
use Rattle.ix_lanes.specs.declared.doing.Doing.{Doing}
use Rattle.ix_lanes.specs.declared.doing.Doing.TheVariants.{Begun, Putting, Staged, Importing}
use Rattle.ix_lanes.specs.Progress.{Progress}
use Rattle.ix_lanes.specs.Tasks.{Task, Build, Remove, Poll, Refresh, Ask, Release, Collect}
use Rattle.ix_seats.specs.Coming.{query_of}
use Rattle.ix_seats.specs.Seated.{asked, asked_by}

puts : (job : Made) (body : Option Body) → query_of (put_or_stage job body) ≡ None
puts job None = refl
puts job (Some body) = refl

builds : (job : Made) (doing : Doing) → query_of (build_turn job doing) ≡ None
builds job Begun = refl
builds job (Putting files) = puts job (slice_get job.bodies files)
builds job Staged = refl
builds job (Importing mark records) = refl

polls : (doing : Doing) → query_of (poll_turn doing) ≡ None
polls Begun = refl
polls (Putting files) = refl
polls Staged = refl
polls (Importing mark records) = refl

first-asks : (doing : Doing) (tasks : List Task) → option_and_then query_of (option_map (task_turn doing) (slice_get tasks 0)) ≡ asked_by tasks
first-asks doing [] = refl
first-asks doing (Build job ∷ tasks) = builds job doing
first-asks doing (Remove output ∷ tasks) = refl
first-asks doing (Poll ∷ tasks) = polls doing
first-asks doing (Refresh ∷ tasks) = refl
first-asks doing (Ask query ∷ tasks) = refl
first-asks doing (Release ∷ tasks) = refl
first-asks doing (Collect ∷ tasks) = refl

pub turn-asks : (p : Progress) → option_and_then query_of (next_turn p) ≡ asked p
turn-asks p = first-asks p.doing p.tasks
