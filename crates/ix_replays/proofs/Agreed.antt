-- Along a run each lane's progress holds what the machine's state says.
use Rattle.std.proofs.Common.{◌≡◌, ◌≢◌, ◌⊎◌, inl, inr, ℕ, zero, suc, ◌<◌, ◌≤◌, ◌==◌, true, false, List, [], ◌∷◌, ◌++◌, length, map, replicate, get_or, Option, Some, None, IfSome, option_map, option_and_then, slice_get, refl, sym, ap, ◌∙◌, subst, arith}
use Rattle.std.proofs.lemmas.Bool.Decides.{Decides-eqb}
use Rattle.ix_model.specs.declared.publication.Publication.{Publication}
use Rattle.ix_model.specs.Units.{Units, units_at}
use Rattle.ix_machine.specs.declared.event.Event.{Event}
use Rattle.ix_machine.specs.declared.event.Outcome.{Outcome}
use Rattle.ix_machine.specs.Given.{Given}
use Rattle.ix_machine.specs.Needs.{seen_at}
use Rattle.ix_machine.specs.Run.{Opening}
use Rattle.ix_machine.specs.State.{State, held_by}
use Rattle.ix_machine.specs.Step.{Stepped, step}
use Rattle.ix_plan.specs.declared.plan.Script.{Script}
use Rattle.ix_lanes.specs.Calls.{next_call}
use Rattle.ix_lanes.specs.Laws.{AgreeAt}
use Rattle.ix_lanes.specs.Progress.{Progress, progress_after, told}
use Rattle.ix_lanes.specs.Tasks.{Task, tasks_of}
use Rattle.ix_replays.specs.Laws.{RunFits, LanesHold}
use Rattle.ix_replays.specs.Run.{Run, with_event, call_of, extended, run_from, progress_of, fresh, lanes_of}
use Rattle.ix_replays.proofs.Holds.{next_along}
use Rattle.ix_replays.proofs.Runs.{added, next_fits, own_goes_on}
use Rattle.ix_replays.proofs.Whole.{at_end, first_event}
use Rattle.ix_replays.proofs.Steps.{other_lane}
use Rattle.ix_replays.proofs.Together.{event_held, first_held, step_length}

-- a lane that is there is below the number of lanes
below : {A : Type 0} (xs : List A) (i : ℕ) (x : A) → slice_get xs i ≡ Some x → i < length xs
below [] i x e = absurd (cc)
below (y ∷ ys) zero x e = omega arith
below (y ∷ ys) (suc i) x e = let b = below ys i x e in omega (arith, b)

same_or_other : (a b : ℕ) → (a ≡ b) ⊎ (a ≢ b)
same_or_other a b =
    (elim (a == b) as (λ r. (a == b) ≡ r → (a ≡ b) ⊎ (a ≢ b)) [
      | true ↦ λ e. inl ((Decides-eqb a b).0 e)
      | false ↦ λ e. inr (λ p. apart p e)
    ]) refl
  where
    apart : a ≡ b → (a == b) ≡ false → ⊥
    apart p e = let t = (Decides-eqb a b).1 p in cc

module _ (prefix : (earlier later : List Publication) (n : ℕ) → n ≤ length earlier → units_at (earlier ++ later) n ≡ units_at earlier n)
    (same : (seen other : ℕ → Units) (tasks : List Task) (events : List Event) → AgreeAt seen other events → progress_after seen tasks events ≡ progress_after other tasks events)
    (hold : (name_of : List ℕ → List ℕ) (s : State) (lane : ℕ) (given : Given) (flag : Outcome) (stepped : Stepped) (other : ℕ)
    → step name_of s lane given flag ≡ Some stepped → other ≢ lane → held_by stepped.state other ≡ held_by s other)
    (name_of : List ℕ → List ℕ) (lanes : List (List Task)) (run : Run) (lane : ℕ) (flag : Outcome) where
  -- the event of the lane's own call, and what it leaves held
  record Own (tasks : List Task) (longer : Run) : Type 0 where
    event : Event
    own : event.lane ≡ lane
    events : longer.events ≡ run.events ++ event ∷ []
    held : held_by longer.state lane ≡ (told event.outcome (progress_of run lane tasks)).held

  by_step : (tasks : List Task) (g : Given) (o : Option Stepped) → IfSome o (λ st. held_by st.state lane ≡ (told st.outcome (progress_of run lane tasks)).held) → IfSome (option_map (with_event name_of run lane g) o) (Own tasks)
  by_step tasks g None h = tt
  by_step tasks g (Some st) h = record { event = record { lane = lane; call = call_of name_of run.state lane g; outcome = st.outcome }; own = refl; events = refl; held = h }

  by_call : (tasks : List Task) (o : Option Given) → IfSome o (λ g. IfSome (step name_of run.state lane g flag) (λ st. held_by st.state lane ≡ (told st.outcome (progress_of run lane tasks)).held))
      → IfSome (option_and_then (λ given. option_map (with_event name_of run lane given) (step name_of run.state lane given flag)) o) (Own tasks)
  by_call tasks None h = tt
  by_call tasks (Some g) h = by_step tasks g (step name_of run.state lane g flag) h

  own_event : (tasks : List Task) (longer : Run) → slice_get lanes lane ≡ Some tasks → LanesHold lanes run → extended name_of lanes run lane flag ≡ Some longer → Own tasks longer
  own_event tasks longer there holds e =
      let p = progress_of run lane tasks in
      let here : lane < length run.state.held = (let b = below lanes lane tasks there in let r = holds.room in omega (arith, b, r)) in
      let calls = by_call tasks (next_call (seen_at run.state) run.state.current p) (next_along name_of (seen_at run.state) run.state lane here run.state.current p.tasks p.doing p.held p.loaded p.answers flag (holds.held lane tasks there)) in
      let all : IfSome (extended name_of lanes run lane flag) (Own tasks) =
      subst (λ (o : Option (List Task)). IfSome (option_and_then (λ given. option_map (with_event name_of run lane given) (step name_of run.state lane given flag)) (option_and_then (λ ts. next_call (seen_at run.state) run.state.current (progress_of run lane ts)) o)) (Own tasks)) (sym there) calls in
      subst (λ (o : Option Run). IfSome o (Own tasks)) e all

  pub still_hold : (longer : Run) → RunFits run → LanesHold lanes run → extended name_of lanes run lane flag ≡ Some longer → LanesHold lanes longer
  still_hold longer fits holds e =
      let a = added name_of lanes run lane flag longer e in
      let grown : length a.stepped.state.held ≡ length run.state.held = subst (λ (o : Option Stepped). IfSome o (λ st. length st.state.held ≡ length run.state.held)) a.taken (step_length name_of run.state lane a.given flag) in
      record {
        room = ap (λ (r : Run). length r.state.held) (sym a.is) ∙ (grown ∙ holds.room);
        held = λ other tasks there. by_lane other tasks there (same_or_other lane other);
      }
    where
      by_lane : (other : ℕ) (tasks : List Task) → slice_get lanes other ≡ Some tasks → (lane ≡ other) ⊎ (lane ≢ other) → held_by longer.state other ≡ (progress_of longer other tasks).held
      by_lane other tasks there (inl is) =
          let own = own_event tasks longer (ap (slice_get lanes) is ∙ there) holds e in
          let on = own_goes_on prefix same run longer own.event fits (next_fits name_of lanes run lane flag longer fits e).falls own.events lane tasks ((Decides-eqb own.event.lane lane).1 own.own) in
          subst (λ (n : ℕ). held_by longer.state n ≡ (progress_of longer n tasks).held) is
          (own.held ∙ (sym (event_held (seen_at longer.state) (progress_of run lane tasks) own.event) ∙ ap (λ (p : Progress). p.held) (sym on)))
      by_lane other tasks there (inr apart) =
          let a = added name_of lanes run lane flag longer e in
          ap (λ (r : Run). held_by r.state other) (sym a.is)
          ∙ (hold name_of run.state lane a.given flag a.stepped other a.taken (λ p. apart (sym p))
          ∙ (holds.held other tasks there ∙ ap (λ (p : Progress). p.held) (sym (other_lane prefix same name_of lanes run longer lane other flag tasks fits e apart))))

module _ (prefix : (earlier later : List Publication) (n : ℕ) → n ≤ length earlier → units_at (earlier ++ later) n ≡ units_at earlier n)
    (same : (seen other : ℕ → Units) (tasks : List Task) (events : List Event) → AgreeAt seen other events → progress_after seen tasks events ≡ progress_after other tasks events)
    (hold : (name_of : List ℕ → List ℕ) (s : State) (lane : ℕ) (given : Given) (flag : Outcome) (stepped : Stepped) (other : ℕ)
    → step name_of s lane given flag ≡ Some stepped → other ≢ lane → held_by stepped.state other ≡ held_by s other)
    (name_of : List ℕ → List ℕ) (lanes : List (List Task)) where
  pub end_holds : (order : List ℕ) (flags : List Outcome) (run end : Run) → RunFits run → LanesHold lanes run → run_from name_of lanes run order flags ≡ Some end → LanesHold lanes end
  end_holds [] [] run end fits holds e = subst (LanesHold lanes) (at_end name_of lanes run end e) holds
  end_holds [] (flag ∷ flags) run end fits holds e = absurd (cc)
  end_holds (lane ∷ order) [] run end fits holds e = absurd (cc)
  end_holds (lane ∷ order) (flag ∷ flags) run end fits holds e =
      let f = first_event name_of lanes run end order flags (extended name_of lanes run lane flag) e in
      end_holds order flags f.0 end (next_fits name_of lanes run lane flag f.0 fits f.1).fits (still_hold prefix same hold name_of lanes run lane flag f.0 fits holds f.1) f.2

nothing_held : (n lane : ℕ) → ◌≡◌ {A = Option ℕ} (get_or (replicate n None) lane None) None
nothing_held zero lane = refl
nothing_held (suc n) zero = refl
nothing_held (suc n) (suc lane) = nothing_held n lane

as_many : {A : Type 0} (n : ℕ) (x : A) → length (replicate n x) ≡ n
as_many zero x = refl
as_many (suc n) x = let rest = as_many n x in omega (arith, rest)

mapped : {A B : Type 0} (f : A → B) (xs : List A) → length (map f xs) ≡ length xs
mapped f [] = refl
mapped f (x ∷ xs) = let rest = mapped f xs in omega (arith, rest)

pub first_hold : (name_of : List ℕ → List ℕ) (script : Script) (opening : Opening) → LanesHold (lanes_of name_of script) (fresh name_of script opening)
first_hold name_of script opening = record {
  room = as_many (length script.lanes) None ∙ sym (mapped (tasks_of name_of) script.lanes);
  held = λ lane tasks there. nothing_held (length script.lanes) lane ∙ sym (first_held (seen_at (fresh name_of script opening).state) tasks);
}
