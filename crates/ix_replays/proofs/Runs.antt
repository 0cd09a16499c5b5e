-- Runs, event after event.
use Rattle.std.proofs.Common.{◌≡◌, ℕ, zero, suc, ◌≤◌, ◌==◌, Bool, true, false, cond, List, [], ◌∷◌, ◌++◌, length, Option, Some, None, IfSome, option_map, option_and_then, replicate, get_or, refl, sym, ap, ◌∙◌, subst, arith}
use Rattle.std.specs.List.{AllByRecursion}
use Rattle.std.proofs.lemmas.List.{length-append, append-nil}
use Rattle.std.proofs.lemmas.List.Sums.{fold-append}
use Rattle.std.proofs.lemmas.List.Elements.{filter-append}
use Rattle.ix_model.specs.declared.publication.Publication.{Publication}
use Rattle.ix_model.specs.Units.{Units, units_at}
use Rattle.ix_machine.specs.declared.event.Event.{Event}
use Rattle.ix_machine.specs.declared.event.Outcome.{Outcome}
use Rattle.ix_machine.specs.declared.event.Outcome.TheVariants.{At}
use Rattle.ix_machine.specs.Given.{Given}
use Rattle.ix_machine.specs.Needs.{seen_at}
use Rattle.ix_machine.specs.Run.{Opening}
use Rattle.ix_machine.specs.State.{State}
use Rattle.ix_machine.specs.Step.{Stepped, step}
use Rattle.ix_plan.specs.declared.plan.Script.{Script}
use Rattle.ix_lanes.specs.Laws.{AgreeAt}
use Rattle.ix_lanes.specs.Progress.{Progress, after_event, progress_after, settled, begun as first_progress}
use Rattle.ix_lanes.specs.Tasks.{Task}
use Rattle.ix_replays.specs.Laws.{MarksFit, NoMarkFalls, EventFits, RunFits}
use Rattle.ix_replays.specs.Run.{Run, with_event, call_of, next_of, extended, fresh, own_events, progress_of}
use Rattle.ix_replays.proofs.Marks.{Frame, step_good}

pub stepped_good : (name_of : List ℕ → List ℕ) (s : State) (lane : ℕ) (given : Given) (flag : Outcome) (stepped : Stepped) → MarksFit s → step name_of s lane given flag ≡ Some stepped
    → Frame s stepped.state × ((mark : ℕ) → stepped.outcome ≡ At mark → mark ≤ length stepped.state.publications)
stepped_good name_of s lane given flag stepped fit is =
    subst (λ (o : Option Stepped). IfSome o (λ st. Frame s st.state × ((mark : ℕ) → st.outcome ≡ At mark → mark ≤ length st.state.publications))) is (step_good s fit lane name_of given flag)

-- ---- one event more

-- what an event more is: a step of the machine
pub record Added (name_of : List ℕ → List ℕ) (run : Run) (lane : ℕ) (flag : Outcome) (longer : Run) : Type 0 where
  pub given : Given
  pub stepped : Stepped
  pub taken : step name_of run.state lane given flag ≡ Some stepped
  pub is : with_event name_of run lane given stepped ≡ longer

module _ (name_of : List ℕ → List ℕ) where
  module _ (run : Run) (lane : ℕ) (flag : Outcome) (longer : Run) where
    by_step : (given : Given) (o : Option Stepped) → step name_of run.state lane given flag ≡ o → option_map (with_event name_of run lane given) o ≡ Some longer → Added name_of run lane flag longer
    by_step given None is e = absurd (cc)
    by_step given (Some stepped) is e = record { given = given; stepped = stepped; taken = is; is = some_same e }
      where
        of : Option Run → Type 0
        of None = ⊥
        of (Some r) = with_event name_of run lane given stepped ≡ r

        some_same : Some (with_event name_of run lane given stepped) ≡ Some longer → with_event name_of run lane given stepped ≡ longer
        some_same p = subst (λ (o : Option Run). of o) p refl

    by_call : (o : Option Given) → option_and_then (λ given. option_map (with_event name_of run lane given) (step name_of run.state lane given flag)) o ≡ Some longer → Added name_of run lane flag longer
    by_call None e = absurd (cc)
    by_call (Some given) e = by_step given (step name_of run.state lane given flag) refl e

  pub added : (lanes : List (List Task)) (run : Run) (lane : ℕ) (flag : Outcome) (longer : Run) → extended name_of lanes run lane flag ≡ Some longer → Added name_of run lane flag longer
  added lanes run lane flag longer e = by_call run lane flag longer (next_of name_of lanes run lane) e

-- ---- events stay within the publications

later_fit : (s t : State) (more : List Publication) → t.publications ≡ s.publications ++ more → (events : List Event) → AllByRecursion (EventFits s) events → AllByRecursion (EventFits t) events
later_fit s t more grows [] a = tt
later_fit s t more grows (event ∷ events) a = (
  λ mark at. (let own = a.0 mark at in let n = length-append s.publications more in let m = ap (λ (ps : List Publication). length ps) grows in omega (arith, own, n, m)),
  later_fit s t more grows events a.1,
)

one_event_more : (P : Event → Type 0) (events : List Event) (event : Event) → AllByRecursion P events → P event → AllByRecursion P (events ++ event ∷ [])
one_event_more P [] event a p = (p, tt)
one_event_more P (e ∷ es) event a p = (a.0, one_event_more P es event a.1 p)

pub record Next (run longer : Run) : Type 0 where
  pub fits : RunFits longer
  pub falls : NoMarkFalls run.state longer.state

pub next_fits : (name_of : List ℕ → List ℕ) (lanes : List (List Task)) (run : Run) (lane : ℕ) (flag : Outcome) (longer : Run) → RunFits run → extended name_of lanes run lane flag ≡ Some longer → Next run longer
next_fits name_of lanes run lane flag longer fits e =
    let a = added name_of lanes run lane flag longer e in
    let good = stepped_good name_of run.state lane a.given flag a.stepped fits.marks a.taken in
    subst (λ (r : Run). Next run r) a.is (record {
      fits = record {
        marks = good.0.fit;
        events = one_event_more (EventFits a.stepped.state) run.events (record { lane = lane; call = call_of name_of run.state lane a.given; outcome = a.stepped.outcome })
            (later_fit run.state a.stepped.state good.0.falls.more good.0.falls.publications run.events fits.events) good.1;
      };
      falls = good.0.falls;
    })

-- ---- the first state

none_held : (n lane : ℕ) → ◌≡◌ {A = Option ℕ} (get_or (replicate n None) lane None) None
none_held zero lane = refl
none_held (suc n) zero = refl
none_held (suc n) (suc lane) = none_held n lane

pub fresh_fits : (name_of : List ℕ → List ℕ) (script : Script) (opening : Opening) → RunFits (fresh name_of script opening)
fresh_fits name_of script opening = record {
  marks = record {
    current = omega arith;
    imported = tt;
    held = λ lane. subst (λ (o : Option ℕ). IfSome o (λ mark. mark ≤ 0)) (sym (none_held (length script.lanes) lane)) tt;
  };
  events = tt;
}

-- ---- progress, event after event

module _ (prefix : (earlier later : List Publication) (n : ℕ) → n ≤ length earlier → units_at (earlier ++ later) n ≡ units_at earlier n)
    (same : (seen other : ℕ → Units) (tasks : List Task) (events : List Event) → AgreeAt seen other events → progress_after seen tasks events ≡ progress_after other tasks events) where
  agree : (s t : State) (more : List Publication) → t.publications ≡ s.publications ++ more → (lane : ℕ) (events : List Event) → AllByRecursion (EventFits s) events → AgreeAt (seen_at t) (seen_at s) (own_events lane events)
  agree s t more grows lane [] a = tt
  agree s t more grows lane (event ∷ events) a =
      elim (event.lane == lane) as (λ b. AgreeAt (seen_at t) (seen_at s) (cond b (event ∷ own_events lane events) (own_events lane events))) [
        | true ↦ (
          λ mark at. ap (λ (ps : List Publication). units_at ps mark) grows ∙ prefix s.publications more mark (a.0 mark at),
          agree s t more grows lane events a.1,
        )
        | false ↦ agree s t more grows lane events a.1
      ]

  earlier_progress : (run longer : Run) → RunFits run → NoMarkFalls run.state longer.state → (lane : ℕ) (tasks : List Task)
      → progress_after (seen_at longer.state) tasks (own_events lane run.events) ≡ progress_of run lane tasks
  earlier_progress run longer fits falls lane tasks =
      same (seen_at longer.state) (seen_at run.state) tasks (own_events lane run.events) (agree run.state longer.state falls.more falls.publications lane run.events fits.events)

  -- of the lane that made no call, nothing changes
  pub others_stay : (run longer : Run) (event : Event) → RunFits run → NoMarkFalls run.state longer.state → longer.events ≡ run.events ++ event ∷ [] → (lane : ℕ) (tasks : List Task)
      → (event.lane == lane) ≡ false → progress_of longer lane tasks ≡ progress_of run lane tasks
  others_stay run longer event fits falls is lane tasks apart =
      let mine : own_events lane longer.events ≡ own_events lane run.events =
      ap (own_events lane) is
      ∙ (filter-append (λ (e : Event). e.lane == lane) run.events (event ∷ [])
      ∙ (ap (λ (b : Bool). own_events lane run.events ++ cond b (event ∷ []) []) apart ∙ append-nil (own_events lane run.events))) in
      ap (λ (es : List Event). progress_after (seen_at longer.state) tasks es) mine ∙ earlier_progress run longer fits falls lane tasks

  -- the lane that made the call is one event further
  pub own_goes_on : (run longer : Run) (event : Event) → RunFits run → NoMarkFalls run.state longer.state → longer.events ≡ run.events ++ event ∷ [] → (lane : ℕ) (tasks : List Task)
      → (event.lane == lane) ≡ true → progress_of longer lane tasks ≡ after_event (seen_at longer.state) (progress_of run lane tasks) event
  own_goes_on run longer event fits falls is lane tasks own =
      let mine : own_events lane longer.events ≡ own_events lane run.events ++ event ∷ [] =
      ap (own_events lane) is
      ∙ (filter-append (λ (e : Event). e.lane == lane) run.events (event ∷ [])
      ∙ ap (λ (b : Bool). own_events lane run.events ++ cond b (event ∷ []) []) own) in
      ap (λ (es : List Event). progress_after (seen_at longer.state) tasks es) mine
      ∙ (fold-append (after_event (seen_at longer.state)) (settled (seen_at longer.state) (first_progress tasks)) (own_events lane run.events) (event ∷ [])
      ∙ ap (λ (p : Progress). after_event (seen_at longer.state) p event) (earlier_progress run longer fits falls lane tasks))
