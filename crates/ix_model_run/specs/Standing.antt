-- What stands for a run: its events, the machine in its state, and what is kept beside it.
use Rattle.std.specs.Prelude.{◌≡◌, ℕ, Bool, true, false, List, [], map, Option, Some, None, option_map, option_and_then}
use Rattle.ix_machine.specs.declared.event.Event.{Event}
use Rattle.ix_machine.specs.declared.event.Outcome.{Outcome}
use Rattle.ix_machine.specs.Given.{Given}
use Rattle.ix_machine.specs.State.{State}
use Rattle.ix_machine.specs.Step.{step}
use Rattle.ix_lanes.specs.Tasks.{Task}
use Rattle.ix_replays.specs.Run.{Run, run_from, with_event}
use Rattle.ix_plan.specs.declared.plan.Step.{Step}
use Rattle.ix_lanes.specs.Tasks.{tasks_of}
use Rattle.ix_model_run.specs.Kept.{Kept, Follows}

pub record Standing : Type 0 where
  pub events : List Event
  pub state : State
  pub kept : Kept

pub record IsAt (run : Run) (now : Standing) : Type 0 where
  pub events : now.events ≡ run.events
  pub state : now.state ≡ run.state
  pub follows : Follows now.kept run.state

-- what the steps of each lane ask of it
abbrev pub tasks_of_each : (List ℕ → List ℕ) → List (List Step) → List (List Task)
tasks_of_each name_of lanes = map (tasks_of name_of) lanes

module _ (name_of : List ℕ → List ℕ) where
  -- the run with one event more, of this call
  abbrev pub by_call : Run → ℕ → Outcome → Option Given → Option Run
  by_call run lane flag given = option_and_then (λ given. option_map (with_event name_of run lane given) (step name_of run.state lane given flag)) given

-- it went on to the longer run; or there is none
abbrev pub GoesOn : Standing → Bool → Option Run → Type 0
GoesOn now true None = ⊥
GoesOn now true (Some longer) = IsAt longer now
GoesOn now false longer = longer ≡ None

-- all turns were taken, and what is left is whether the run ends there; or the run has no value
abbrev pub Ran : (List ℕ → List ℕ) → List (List Task) → Standing → Bool → Option Run → Type 0
Ran name_of lanes now true end = (run : Run) × IsAt run now × (end ≡ run_from name_of lanes run [] [])
Ran name_of lanes now false end = end ≡ None
