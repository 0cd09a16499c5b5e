-- A call that was made takes the run on, and what is kept with it.
use Rattle.std.proofs.Common.{◌≡◌, ℕ, true, List, [], ◌∷◌, ◌++◌, Option, Some, None, option_map, option_and_then, refl, sym, ap, ◌∙◌, subst}
use Rattle.ix_unit.specs.declared.value.UnitValue.{UnitValue}
use Rattle.ix_machine.specs.declared.event.Call.{Call}
use Rattle.ix_machine.specs.declared.event.Call.TheVariants as call
use Rattle.ix_machine.specs.declared.event.Outcome.{Outcome}
use Rattle.ix_machine.specs.Given.{Given}
use Rattle.ix_machine.specs.Given as given
use Rattle.ix_machine.specs.PlainState.{answered}
use Rattle.ix_machine.specs.State.{State}
use Rattle.ix_machine.specs.Step.{Row, Stepped, flagged, step, staged_by, publish_unit}
use Rattle.ix_replays.specs.Run.{Run, call_of, with_event}
use Rattle.ix_model_run.specs.Kept.{Kept, Follows, call_in, kept_after}
use Rattle.ix_model_run.specs.Standing.{GoesOn, IsAt, Standing, by_call}
use Rattle.ix_model_run.proofs.Following.{step_follows}

module _ (name_of : List ℕ → List ℕ) (k : Kept) (s : State) (f : Follows k s) (lane : ℕ) where
  -- a publish that has a step is of what the lane staged
  published : (flag : Outcome) (stepped : Stepped) (o : Option UnitValue) → staged_by s lane ≡ o
      → option_and_then (λ (r : Row). flagged r flag) (option_map (λ unit. publish_unit s lane (name_of unit.output) unit) o) ≡ Some stepped
      → call_in name_of k lane given.Publish ≡ Some (call_of name_of s lane given.Publish)
  published flag stepped None staged e = absurd (cc)
  published flag stepped (Some unit) staged e =
      ap (λ (o : Option UnitValue). option_map (λ (unit : UnitValue). call.Publish (name_of unit.output)) o) (f.staged lane unit staged)
      ∙ sym (ap (λ (o : Option UnitValue). Some (call.Publish (Rattle.std.specs.Prelude.unwrap_or (option_map (λ (unit : UnitValue). name_of unit.output) o) []))) staged)

  call_shown : (g : Given) (flag : Outcome) (stepped : Stepped) → step name_of s lane g flag ≡ Some stepped → call_in name_of k lane g ≡ Some (call_of name_of s lane g)
  call_shown (given.Lease names) flag stepped e = refl
  call_shown (given.Put body) flag stepped e = refl
  call_shown (given.Stage unit) flag stepped e = refl
  call_shown given.Publish flag stepped e = published flag stepped (staged_by s lane) refl e
  call_shown (given.Remove output) flag stepped e = refl
  call_shown given.Scan flag stepped e = refl
  call_shown (given.Load name purpose) flag stepped e = refl
  call_shown given.Install flag stepped e = refl
  call_shown given.Adopt flag stepped e = refl
  call_shown given.Release flag stepped e = refl
  call_shown given.Collect flag stepped e = refl

  -- a call that isn't shown has no step
  not_shown : (g : Given) (flag : Outcome) (o : Option Stepped) → step name_of s lane g flag ≡ o → call_in name_of k lane g ≡ None → o ≡ None
  not_shown g flag None e none = refl
  not_shown g flag (Some stepped) e none = let shown = call_shown g flag stepped e in absurd (cc)

module _ (name_of : List ℕ → List ℕ) (now : Standing) (run : Run) (at : IsAt run now) (lane : ℕ) (g : Given) (flag : Outcome) where
  -- the step from the machine's state is that from the run's
  from_run : by_call name_of run lane flag (Some g) ≡ option_map (with_event name_of run lane g) (step name_of now.state lane g flag)
  from_run = ap (λ (s : State). option_map (with_event name_of run lane g) (step name_of s lane g flag)) (sym at.state)

  pub no_step : step name_of now.state lane g flag ≡ None → by_call name_of run lane flag (Some g) ≡ None
  no_step e = from_run ∙ ap (λ (o : Option Stepped). option_map (with_event name_of run lane g) o) e

  pub no_call : call_in name_of now.kept lane g ≡ None → by_call name_of run lane flag (Some g) ≡ None
  no_call none =
      ap (λ (o : Option Stepped). option_map (with_event name_of run lane g) o) (not_shown name_of now.kept run.state at.follows lane g flag (step name_of run.state lane g flag) refl none)

  pub stepped_on : (call : Call) (stepped : Stepped) (later : Standing) → call_in name_of now.kept lane g ≡ Some call → step name_of now.state lane g flag ≡ Some stepped
      → later.events ≡ now.events ++ (record { lane = lane; call = call; outcome = stepped.outcome }) ∷ [] → later.state ≡ stepped.state → later.kept ≡ kept_after name_of lane g stepped.outcome now.kept
      → GoesOn later true (by_call name_of run lane flag (Some g))
  stepped_on call stepped later shows e events state kept =
      let from : step name_of run.state lane g flag ≡ Some stepped = ap (λ (s : State). step name_of s lane g flag) (sym at.state) ∙ e in
      let shown = call_shown name_of now.kept run.state at.follows lane g flag stepped from in
      let same : call ≡ call_of name_of run.state lane g = cc in
      let follows = step_follows name_of now.kept run.state at.follows lane g flag stepped from in
      let is : IsAt (with_event name_of run lane g stepped) later = record {
        events = events ∙ (λ i. at.events i ++ (record { lane = lane; call = same i; outcome = stepped.outcome }) ∷ []);
        state = state;
        follows = subst (λ (k : Kept). Follows k stepped.state) (sym kept) follows;
      } in
      subst (λ (o : Option Run). GoesOn later true o) (sym (ap (λ (o : Option Stepped). option_map (with_event name_of run lane g) o) from)) is

  -- by what the machine answered
  pub answered_none : (after : State) (o : Option Stepped) → (None, after) ≡ answered now.state o → o ≡ None
  answered_none after None e = refl
  answered_none after (Some stepped) e = let first = ap (λ (p : Option Outcome × State). p.0) e in absurd (cc)

  pub answered_some : (outcome : Outcome) (after : State) (o : Option Stepped) → (Some outcome, after) ≡ answered now.state o
      → (stepped : Stepped) × (o ≡ Some stepped) × (stepped.outcome ≡ outcome) × (stepped.state ≡ after)
  answered_some outcome after None e = let first = ap (λ (p : Option Outcome × State). p.0) e in absurd (cc)
  answered_some outcome after (Some stepped) e =
      let first : Some outcome ≡ Some stepped.outcome = ap (λ (p : Option Outcome × State). p.0) e in
      let second : after ≡ stepped.state = ap (λ (p : Option Outcome × State). p.1) e in
      (stepped, refl, cc, sym second)
