-- What a lane does next, and the call that this is.
use Rattle.std.specs.Prelude.{ℕ, not, List, filter, slice_get, Option, Some, None, option_map, option_and_then}
use Rattle.ix_record.specs.declared.body.Body.{Body}
use Rattle.ix_types.specs.declared.row.Query.{Query}
use Rattle.ix_unit.specs.declared.value.UnitValue.{UnitValue}
use Rattle.ix_model.specs.Units.{Units, needs}
use Rattle.ix_answers.specs.Needs.{next_need}
use Rattle.ix_machine.specs.declared.event.Purpose.TheVariants as purpose
use Rattle.ix_machine.specs.Given.{Given}
use Rattle.ix_machine.specs.Given as given
use Rattle.ix_machine.specs.Needs.{units_need}
use Rattle.ix_jobs.specs.Made.{Made}
use Rattle.ix_lanes.specs.declared.doing.Doing.{Doing}
use Rattle.ix_lanes.specs.declared.doing.Doing.TheVariants.{Begun, Putting, Staged, Importing}
use Rattle.ix_lanes.specs.Tasks.{Task}
use Rattle.ix_lanes.specs.Tasks as task
use Rattle.ix_lanes.specs.Progress.{Progress}

-- what a lane does next: a call with what it is given, a step of the open import, or one of the open ask
pub data Turn : Type 0 where
  Lease : List (List ℕ) → Turn
  Put : Body → Turn
  Stage : UnitValue → Turn
  Publish : Turn
  Remove : List ℕ → Turn
  Scan : Turn
  Import : Turn
  Adopt : Turn
  Release : Turn
  Collect : Turn
  Ask : Query → Turn

-- a job's files are put one after the other, and then its unit is staged
abbrev pub put_or_stage : Made → Option Body → Turn
put_or_stage job None = Stage job.unit
put_or_stage job (Some body) = Put body

abbrev pub build_turn : Made → Doing → Turn
build_turn job Begun = Lease job.names
build_turn job (Putting files) = put_or_stage job (slice_get job.bodies files)
build_turn job Staged = Publish
build_turn job (Importing mark records) = Publish

abbrev pub poll_turn : Doing → Turn
poll_turn Begun = Scan
poll_turn (Putting files) = Scan
poll_turn Staged = Scan
poll_turn (Importing mark records) = Import

abbrev pub task_turn : Doing → Task → Turn
task_turn doing (task.Build job) = build_turn job doing
task_turn doing (task.Remove output) = Remove output
task_turn doing task.Poll = poll_turn doing
task_turn doing task.Refresh = Adopt
task_turn doing (task.Ask query) = Ask query
task_turn doing task.Release = Release
task_turn doing task.Collect = Collect

-- what a lane does next; None where no task is left
abbrev pub next_turn : Progress → Option Turn
next_turn p = option_map (task_turn p.doing) (slice_get p.tasks 0)

-- the records that the second units need and the first don't, rising
abbrev pub fresh_in : Units → Units → List (List ℕ)
fresh_in before after = filter (λ name. not (units_need name before)) (needs after)

-- an import loads one such record after the other, and is then installed
abbrev pub load_or_install : Option (List ℕ) → Given
load_or_install None = given.Install
load_or_install (Some name) = given.Load name purpose.Import

module _ (seen : ℕ → Units) (current : ℕ) where
  abbrev pub import_call : Doing → Option Given
  import_call Begun = None
  import_call (Putting files) = None
  import_call Staged = None
  import_call (Importing mark records) = Some (load_or_install (slice_get (fresh_in (seen current) (seen mark)) records))

  -- an ask loads the first needed record that isn't loaded
  abbrev pub ask_call : Query → Option ℕ → List (List ℕ) → Option Given
  ask_call query held loaded = option_and_then (λ mark. option_map (λ name. given.Load name purpose.Ask) (next_need query (seen mark) loaded)) held

  abbrev pub call_for : Progress → Turn → Option Given
  call_for p (Lease names) = Some (given.Lease names)
  call_for p (Put body) = Some (given.Put body)
  call_for p (Stage unit) = Some (given.Stage unit)
  call_for p Publish = Some given.Publish
  call_for p (Remove output) = Some (given.Remove output)
  call_for p Scan = Some given.Scan
  call_for p Import = import_call p.doing
  call_for p Adopt = Some given.Adopt
  call_for p Release = Some given.Release
  call_for p Collect = Some given.Collect
  call_for p (Ask query) = ask_call query p.held p.loaded

  -- the call that a lane makes next. seen are the units at each mark, current is the mark of the current version
  abbrev pub next_call : Progress → Option Given
  next_call p = option_and_then (call_for p) (next_turn p)
