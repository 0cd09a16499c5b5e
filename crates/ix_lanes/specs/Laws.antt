-- What holds of every lane, in the words of its users.
use Rattle.std.specs.Prelude.{◌≡◌, ◌⊎◌, ℕ, List, [], ◌∷◌, ◌++◌, Option, Some, None}
use Rattle.std.specs.List.{AllByRecursion, AllZip}
use Rattle.ix_types.specs.declared.row.Query.{Query}
use Rattle.ix_model.specs.Units.{Units}
use Rattle.ix_answers.specs.Answers.{answer}
use Rattle.ix_machine.specs.declared.event.Event.{Event}
use Rattle.ix_machine.specs.declared.event.Outcome.{Outcome}
use Rattle.ix_machine.specs.declared.event.Outcome.TheVariants.{At}
use Rattle.ix_lanes.specs.declared.answered.AskResult.{AskResult}
use Rattle.ix_lanes.specs.declared.answered.AskResult.TheVariants.{Rows, NoneHeld, Fault, Lost, Damaged}
use Rattle.ix_lanes.specs.declared.answered.Answered.{Answered}
use Rattle.ix_record.specs.declared.body.Body.{Body}
use Rattle.ix_unit.specs.declared.value.UnitValue.{UnitValue}
use Rattle.ix_jobs.specs.Made.{Made}
use Rattle.ix_lanes.specs.Calls.{Turn, next_turn}
use Rattle.ix_lanes.specs.Progress.{Progress, begun, told}
use Rattle.ix_lanes.specs.Tasks.{Task, Build, Remove, Poll, Refresh, Ask, Release, Collect}

-- ---- marks

-- what is held after an event: what was held before it, nothing, or the version of the mark at which it ended
abbrev pub IsHeldAfter : Outcome → Option ℕ → Option ℕ → Type 0
IsHeldAfter outcome before after = (after ≡ before) ⊎ ((after ≡ None) ⊎ ((mark : ℕ) × (outcome ≡ At mark) × (after ≡ Some mark)))

-- the same units are seen at each mark at which an event ended
abbrev pub AgreeAt : (ℕ → Units) → (ℕ → Units) → List Event → Type 0
AgreeAt seen other events = AllByRecursion (λ event. (mark : ℕ) → event.outcome ≡ At mark → seen mark ≡ other mark) events

-- ---- answers

-- the queries of the asks, in order
abbrev pub asks_of : List Task → List Query
asks_of [] = []
asks_of (Build job ∷ tasks) = asks_of tasks
asks_of (Remove output ∷ tasks) = asks_of tasks
asks_of (Poll ∷ tasks) = asks_of tasks
asks_of (Refresh ∷ tasks) = asks_of tasks
asks_of (Ask query ∷ tasks) = query ∷ asks_of tasks
asks_of (Release ∷ tasks) = asks_of tasks
asks_of (Collect ∷ tasks) = asks_of tasks

-- rows are the query's answer over the units that are seen at the mark, and nothing is held exactly where no mark is
abbrev pub IsResultOf : (ℕ → Units) → Query → Option ℕ → AskResult → Type 0
IsResultOf seen query mark (Rows rows) = (n : ℕ) × (mark ≡ Some n) × (rows ≡ answer query (seen n))
IsResultOf seen query mark NoneHeld = mark ≡ None
IsResultOf seen query mark Fault = Unit {0}
IsResultOf seen query mark Lost = Unit {0}
IsResultOf seen query mark Damaged = Unit {0}

abbrev pub IsAnswerTo : (ℕ → Units) → Query → Answered → Type 0
IsAnswerTo seen query answered = IsResultOf seen query answered.mark answered.result

-- the answers are those to the first of the asks, in order, and the rest of the asks is left
pub record AreAnswersTo (seen : ℕ → Units) (asks : List Query) (answers : List Answered) (left : List Task) : Type 0 where
  pub done : List Query
  pub order : asks ≡ done ++ asks_of left
  pub each : AllZip (IsAnswerTo seen) done answers

-- ---- worked steps

-- what a lane does next, along calls that end so, and behind them
abbrev pub turns_along : Progress → List Outcome → List (Option Turn)
turns_along p [] = next_turn p ∷ []
turns_along p (outcome ∷ outcomes) = next_turn p ∷ turns_along (told outcome p) outcomes

-- a job of two files
abbrev pub two_files : UnitValue → List (List ℕ) → Body → Body → Made
two_files unit names first second = record { unit = unit; names = names; bodies = first ∷ second ∷ [] }

-- a lane with one step, and a collect behind it
abbrev pub before_a_collect : Task → Progress
before_a_collect task = begun (task ∷ Collect ∷ [])
