-- What an ask sees in a run of one lane none of whose calls failed.
use Rattle.std.specs.Prelude.{◌≡◌, ◌⊎◌, ℕ, List, [], ◌∷◌, ◌++◌, length, slice_get, Some}
use Rattle.std.specs.List.{AllByRecursion, AllZip}
use Rattle.ix_types.specs.declared.row.Query.{Query}
use Rattle.ix_record.specs.declared.body.Body.{Body}
use Rattle.ix_record.specs.declared.value.RecordValue.{RecordValue}
use Rattle.ix_record.specs.Spelling.{RecordSpelling}
use Rattle.ix_unit.specs.declared.value.RecordDep.{RecordDep}
use Rattle.ix_model.specs.Units.{Units, unit_named}
use Rattle.ix_answers.specs.Answers.{answer}
use Rattle.ix_plan.specs.declared.plan.Script.{Script}
use Rattle.ix_plan.specs.declared.plan.Step.{Step}
use Rattle.ix_jobs.specs.Made.{Made}
use Rattle.ix_machine.specs.declared.event.Call.TheVariants as call
use Rattle.ix_machine.specs.declared.event.Event.{Event}
use Rattle.ix_machine.specs.declared.event.Outcome.{Outcome}
use Rattle.ix_machine.specs.declared.event.Outcome.TheVariants.{Done, Clash, Synced}
use Rattle.ix_machine.specs.Listed.{Lists}
use Rattle.ix_machine.specs.Needs.{visible}
use Rattle.ix_machine.specs.State.{State}
use Rattle.ix_lanes.specs.declared.answered.Answered.{Answered}
use Rattle.ix_lanes.specs.declared.answered.AskResult.TheVariants.{Rows}
use Rattle.ix_lanes.specs.Tasks.{Task}
use Rattle.ix_lanes.specs.Tasks as task
use Rattle.ix_replays.specs.Run.{Run, progress_of}
use Rattle.ix_allowed.specs.Laws.{Moment}

-- a script of one lane
abbrev pub one_lane : List Step → List ℕ → Script
one_lane steps order = record { lanes = steps ∷ []; order = order }

-- no call failed
abbrev pub NoneFailed : List Outcome → Type 0
NoneFailed flags = AllByRecursion (λ flag. flag ≡ Done) flags

-- ---- a build's unit

-- one of the files has the dependency's name, and its bytes spell the value
pub record IsSpelledIn (files : List Body) (dep : RecordDep) (value : RecordValue) : Type 0 where
  pub body : Body
  pub listed : Lists files body
  pub named : body.name ≡ dep.name
  pub spelled : RecordSpelling body.bytes value

-- under the name of its output path stands the job's unit, and to each of its records belongs, in order, a value that one of the job's files spells
pub record HaveBuilt (name_of : List ℕ → List ℕ) (job : Made) (units : Units) : Type 0 where
  pub values : List RecordValue
  pub stands : unit_named (name_of job.unit.output) units ≡ Some (record { unit = job.unit; values = values })
  pub spelled : AllZip (IsSpelledIn job.bodies) job.unit.records values

-- ---- a build, a poll and an ask

-- the answer over the units that are visible in a state, at its mark
abbrev pub answer_now : Query → State → Answered
answer_now query s = record { mark = Some (length s.publications); result = Rows (answer query (visible s)) }

-- a build comes to its end at a moment of the run: it clashes, or its publish is synced and what is visible from then on has its unit. The ask of this
-- number, which comes behind the build and a poll, is answered over what is visible behind that moment
pub record AsksSeeBuild (name_of : List ℕ → List ℕ) (tasks : List Task) (start run : Run) (job : Made) (query : Query) (behind : List Task) (ask : ℕ) : Type 0 where
  pub before : List Event
  pub event : Event
  pub after : List Event
  pub events : run.events ≡ start.events ++ (before ++ event ∷ after)
  pub moment : Moment name_of (tasks ∷ []) start before event
  pub building : (progress_of moment.earlier 0 tasks).tasks ≡ task.Build job ∷ task.Poll ∷ task.Ask query ∷ behind
  pub polling : (progress_of moment.longer 0 tasks).tasks ≡ task.Poll ∷ task.Ask query ∷ behind
  pub built : (event.outcome ≡ Clash) ⊎ ((event ≡ record { lane = 0; call = call.Publish (name_of job.unit.output); outcome = Synced }) × HaveBuilt name_of job (visible moment.longer.state))
  pub answers : slice_get (progress_of run 0 tasks).answers ask ≡ Some (answer_now query moment.longer.state)
