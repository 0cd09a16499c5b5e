-- How a lane's progress and the machine's state go on together.
use Rattle.std.proofs.Common.{◌≡◌, ℕ, ◌==◌, if◌then◌else◌, true, false, List, [], ◌∷◌, length, Option, Some, None, IfSome, unwrap_or, option_map, option_and_then, refl, sym, ap, ◌∙◌}
use Rattle.ix_types.specs.declared.row.Query.{Query}
use Rattle.ix_model.specs.Units.{Units}
use Rattle.ix_machine.specs.declared.event.Event.{Event}
use Rattle.ix_machine.specs.declared.event.Outcome.{Outcome}
use Rattle.ix_machine.specs.declared.event.Outcome.TheVariants.{Done, Written, Shared, Clash, Synced, Unsynced, NoUnit, At, Removed, Nothing, Fault, Lost, Damaged}
use Rattle.ix_lanes.specs.Tasks.{Task}
use Rattle.ix_lanes.specs.Tasks as task
use Rattle.ix_lanes.specs.Progress.{Progress, told, settled, settled_over, answered, ended_at, noted, with_some, loaded_by, after_event}
use Rattle.ix_machine.specs.Outcomes.{is_done}
use Rattle.std.proofs.lemmas.List.{length-set}
use Rattle.ix_machine.specs.Given.{Given}
use Rattle.ix_machine.specs.Given as given
use Rattle.ix_machine.specs.State as state
use Rattle.ix_machine.specs.State.{State, held_by}
use Rattle.ix_machine.specs.Step.{Stepped, sure, flagged, step, holding, install_import, install_mark}
use Rattle.ix_lanes.specs.Progress.{begun}
use Rattle.ix_lanes.specs.declared.answered.Answered.{Answered}
use Rattle.ix_lanes.specs.declared.doing.Doing.{Doing}
use Rattle.ix_replays.proofs.Holds.{ask_stays, KeepsHeld, step_keeps}

module _ (seen : ℕ → Units) where
  settled_held : (tasks : List Task) (p : Progress) → (settled_over seen tasks p).held ≡ p.held
  settled_held [] p = refl
  settled_held (task.Build job ∷ tasks) p = refl
  settled_held (task.Remove output ∷ tasks) p = refl
  settled_held (task.Poll ∷ tasks) p = refl
  settled_held (task.Refresh ∷ tasks) p = refl
  settled_held (task.Ask query ∷ tasks) p =
      elim (ended_at seen query p.held p.loaded) as (λ o. (unwrap_or (option_map (λ ended. settled_over seen tasks (answered ended p)) o) p).held ≡ p.held) [
        | None ↦ refl
        | Some ended ↦ settled_held tasks (answered ended p)
      ]
  settled_held (task.Release ∷ tasks) p = refl
  settled_held (task.Collect ∷ tasks) p = refl

abbrev at : List Task → Doing → Option ℕ → List (List ℕ) → List Answered → Progress
at tasks doing held loaded answers = record { tasks = tasks; doing = doing; held = held; loaded = loaded; answers = answers }

by_name : (name : Option (List ℕ)) (query : Query) (tasks : List Task) (doing : Doing) (held : Option ℕ) (loaded : List (List ℕ)) (answers : List Answered) (event : Event)
    → (told event.outcome (with_some name (at (task.Ask query ∷ tasks) doing held loaded answers))).held ≡ (told event.outcome (at (task.Ask query ∷ tasks) doing held loaded answers)).held
by_name None query tasks doing held loaded answers event = refl
by_name (Some name) query tasks doing held loaded answers event = ask_stays event.outcome (with_some (Some name) (at (task.Ask query ∷ tasks) doing held loaded answers)) ∙ sym (ask_stays event.outcome (at (task.Ask query ∷ tasks) doing held loaded answers))

noted_told : (tasks : List Task) (doing : Doing) (held : Option ℕ) (loaded : List (List ℕ)) (answers : List Answered) (event : Event) → (told event.outcome (noted event (at tasks doing held loaded answers))).held ≡ (told event.outcome (at tasks doing held loaded answers)).held
noted_told [] doing held loaded answers event = refl
noted_told (task.Build job ∷ tasks) doing held loaded answers event = refl
noted_told (task.Remove output ∷ tasks) doing held loaded answers event = refl
noted_told (task.Poll ∷ tasks) doing held loaded answers event = refl
noted_told (task.Refresh ∷ tasks) doing held loaded answers event = refl
noted_told (task.Ask query ∷ tasks) doing held loaded answers event =
    elim (is_done event.outcome) as (λ b. (told event.outcome (if b then with_some (loaded_by event.call) (at (task.Ask query ∷ tasks) doing held loaded answers) else at (task.Ask query ∷ tasks) doing held loaded answers)).held ≡ (told event.outcome (at (task.Ask query ∷ tasks) doing held loaded answers)).held) [
      | true ↦ by_name (loaded_by event.call) query tasks doing held loaded answers event
      | false ↦ refl
    ]
noted_told (task.Release ∷ tasks) doing held loaded answers event = refl
noted_told (task.Collect ∷ tasks) doing held loaded answers event = refl

pub event_held : (seen : ℕ → Units) (p : Progress) (event : Event) → (after_event seen p event).held ≡ (told event.outcome p).held
event_held seen p event =
    let q = told event.outcome (noted event p) in
    settled_held seen q.tasks q ∙ noted_told p.tasks p.doing p.held p.loaded p.answers event

pub first_held : (seen : ℕ → Units) (tasks : List Task) → ◌≡◌ {A = Option ℕ} (settled seen (begun tasks)).held None
first_held seen tasks = settled_held seen tasks (begun tasks)

-- ---- as many lanes as before

sure_length : (s t : State) (outcome : Outcome) → length t.held ≡ length s.held → (flag : Outcome) → IfSome (flagged (sure outcome t) flag) (λ stepped. length stepped.state.held ≡ length s.held)
sure_length s t outcome same Done = same
sure_length s t outcome same Written = tt
sure_length s t outcome same Shared = tt
sure_length s t outcome same Clash = tt
sure_length s t outcome same Synced = tt
sure_length s t outcome same Unsynced = tt
sure_length s t outcome same NoUnit = tt
sure_length s t outcome same (At mark) = tt
sure_length s t outcome same (Removed name) = tt
sure_length s t outcome same Nothing = tt
sure_length s t outcome same Fault = tt
sure_length s t outcome same (Lost name) = tt
sure_length s t outcome same (Damaged name) = tt

module _ (name_of : List ℕ → List ℕ) (s : State) (lane : ℕ) where
  keep_length : (g : Given) (flag : Outcome) → KeepsHeld g → IfSome (step name_of s lane g flag) (λ stepped. length stepped.state.held ≡ length s.held)
  keep_length g flag k = over (step name_of s lane g flag) (step_keeps s lane name_of g flag k)
    where
      over : (o : Option Stepped) → IfSome o (λ stepped. stepped.state.held ≡ s.held) → IfSome o (λ stepped. length stepped.state.held ≡ length s.held)
      over None h = tt
      over (Some stepped) h = ap (λ (hs : List (Option ℕ)). length hs) h

  install_length : (flag : Outcome) (o : Option state.Import) → IfSome (option_and_then (λ r. flagged r flag) (install_import s lane o)) (λ stepped. length stepped.state.held ≡ length s.held)
  install_length flag None = tt
  install_length flag (Some i) =
      elim (i.lane == lane) as (λ b. IfSome (option_and_then (λ r. flagged r flag) (if b then Some (install_mark s lane i.mark) else None)) (λ stepped. length stepped.state.held ≡ length s.held)) [
        | true ↦ sure_length s (holding (record s { import = None; current = i.mark }) lane (Some i.mark)) (At i.mark) (length-set s.held lane (Some i.mark)) flag
        | false ↦ tt
      ]

  pub step_length : (g : Given) (flag : Outcome) → IfSome (step name_of s lane g flag) (λ stepped. length stepped.state.held ≡ length s.held)
  step_length (given.Lease names) flag = keep_length (given.Lease names) flag tt
  step_length (given.Put body) flag = keep_length (given.Put body) flag tt
  step_length (given.Stage unit) flag = keep_length (given.Stage unit) flag tt
  step_length given.Publish flag = keep_length given.Publish flag tt
  step_length (given.Remove output) flag = keep_length (given.Remove output) flag tt
  step_length given.Scan flag = keep_length given.Scan flag tt
  step_length (given.Load name purpose) flag = keep_length (given.Load name purpose) flag tt
  step_length given.Install flag = install_length flag s.import
  step_length given.Adopt flag = sure_length s (holding s lane (Some s.current)) (At s.current) (length-set s.held lane (Some s.current)) flag
  step_length given.Release flag = sure_length s (holding s lane None) Done (length-set s.held lane None) flag
  step_length given.Collect flag = keep_length given.Collect flag tt
