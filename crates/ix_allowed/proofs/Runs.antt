-- Along a run the machine's state keeps of each lane what its progress says.
use Rattle.std.proofs.Common.{◌≡◌, ◌≢◌, ◌⊎◌, inl, inr, ℕ, ◌<◌, ◌==◌, true, false, List, [], ◌∷◌, ◌++◌, length, Option, Some, None, IfSome, option_map, option_and_then, slice_get, refl, sym, ap, ◌∙◌, subst, arith}
use Rattle.std.specs.List.{AllByRecursion}
use Rattle.std.proofs.lemmas.Bool.Decides.{Decides-eqb}
use Rattle.std.proofs.lemmas.List.{append_cancel_left, length-map}
use Rattle.std.proofs.lemmas.Option.{slice_get_within}
use Rattle.ix_machine.specs.declared.event.Event.{Event}
use Rattle.ix_machine.specs.declared.event.Outcome.{Outcome}
use Rattle.ix_machine.specs.Given.{Given}
use Rattle.ix_machine.specs.Needs.{seen_at}
use Rattle.ix_machine.specs.Run.{Opening, begun}
use Rattle.ix_machine.specs.State as state
use Rattle.ix_machine.specs.State.{State, lease_of, held_by}
use Rattle.ix_machine.specs.Step.{Stepped, step}
use Rattle.ix_plan.specs.declared.plan.Script.{Script}
use Rattle.ix_lanes.specs.Calls.{next_call}
use Rattle.ix_lanes.specs.Progress.{Progress, after_event, told}
use Rattle.ix_lanes.specs.Tasks.{Task, tasks_of}
use Rattle.ix_lanes.specs.Tasks as task
use Rattle.ix_replays.specs.Laws.{RunFits, LanesHold}
use Rattle.ix_replays.specs.Run.{Run, with_event, call_of, next_of, extended, progress_of, own_events, fresh, lanes_of}
use Rattle.ix_allowed.specs.Agree.{lease_in, import_at, import_in, import_of, AreTasksOf, IsTaskOf, LaneAgrees, LanesAgree}
use Rattle.ix_allowed.proofs.Steps.{Along, IsNoPoll, next_along}
use Rattle.ix_allowed.proofs.Progresses.{Fits, progress_fits, event_lease, event_import, first_lease, first_import}

-- the laws of runs and of the machine that are used here
pub record RunLaws : Type 0 where
  pub kept : (name_of : List ℕ → List ℕ) (lanes : List (List Task)) (run longer : Run) (lane : ℕ) (flag : Outcome) → RunFits run → extended name_of lanes run lane flag ≡ Some longer → RunFits longer
  pub others : (name_of : List ℕ → List ℕ) (lanes : List (List Task)) (run longer : Run) (lane other : ℕ) (flag : Outcome) (tasks : List Task) → RunFits run
      → extended name_of lanes run lane flag ≡ Some longer → lane ≢ other → progress_of longer other tasks ≡ progress_of run other tasks
  pub own : (name_of : List ℕ → List ℕ) (lanes : List (List Task)) (run longer : Run) (lane : ℕ) (flag : Outcome) (tasks : List Task) → RunFits run
      → extended name_of lanes run lane flag ≡ Some longer
      → (event : Event) × (longer.events ≡ run.events ++ event ∷ []) × (progress_of longer lane tasks ≡ after_event (seen_at longer.state) (progress_of run lane tasks) event)
  pub holds : (name_of : List ℕ → List ℕ) (lanes : List (List Task)) (run longer : Run) (lane : ℕ) (flag : Outcome) → RunFits run → LanesHold lanes run
      → extended name_of lanes run lane flag ≡ Some longer → LanesHold lanes longer
  pub stays : (name_of : List ℕ → List ℕ) (s : State) (lane : ℕ) (given : Given) (flag : Outcome) (stepped : Stepped) (other : ℕ)
      → step name_of s lane given flag ≡ Some stepped → other ≢ lane → lease_of stepped.state other ≡ lease_of s other

-- ---- what an event more is

pub record Added (name_of : List ℕ → List ℕ) (lanes : List (List Task)) (run : Run) (lane : ℕ) (flag : Outcome) (longer : Run) : Type 0 where
  pub tasks : List Task
  pub there : slice_get lanes lane ≡ Some tasks
  pub given : Given
  pub calls : next_call (seen_at run.state) run.state.current (progress_of run lane tasks) ≡ Some given
  pub stepped : Stepped
  pub taken : step name_of run.state lane given flag ≡ Some stepped
  pub is : with_event name_of run lane given stepped ≡ longer

some_same : {A : Type 0} (a b : A) → Some a ≡ Some b → a ≡ b
some_same a b p = cc

module _ (name_of : List ℕ → List ℕ) (lanes : List (List Task)) (run : Run) (lane : ℕ) (flag : Outcome) (longer : Run) where
  by_step : (tasks : List Task) → slice_get lanes lane ≡ Some tasks → (given : Given) → next_call (seen_at run.state) run.state.current (progress_of run lane tasks) ≡ Some given
      → (o : Option Stepped) → step name_of run.state lane given flag ≡ o → option_map (with_event name_of run lane given) o ≡ Some longer → Added name_of lanes run lane flag longer
  by_step tasks there given calls None is e = absurd (cc)
  by_step tasks there given calls (Some stepped) is e =
      record { tasks = tasks; there = there; given = given; calls = calls; stepped = stepped; taken = is; is = some_same (with_event name_of run lane given stepped) longer e }

  by_call : (tasks : List Task) → slice_get lanes lane ≡ Some tasks → (o : Option Given) → next_call (seen_at run.state) run.state.current (progress_of run lane tasks) ≡ o
      → option_and_then (λ given. option_map (with_event name_of run lane given) (step name_of run.state lane given flag)) o ≡ Some longer → Added name_of lanes run lane flag longer
  by_call tasks there None is e = absurd (cc)
  by_call tasks there (Some given) is e = by_step tasks there given is (step name_of run.state lane given flag) refl e

  by_tasks : (o : Option (List Task)) → slice_get lanes lane ≡ o
      → option_and_then (λ given. option_map (with_event name_of run lane given) (step name_of run.state lane given flag))
      (option_and_then (λ tasks. next_call (seen_at run.state) run.state.current (progress_of run lane tasks)) o) ≡ Some longer → Added name_of lanes run lane flag longer
  by_tasks None is e = absurd (cc)
  by_tasks (Some tasks) is e = by_call tasks is (next_call (seen_at run.state) run.state.current (progress_of run lane tasks)) refl e

  pub added : extended name_of lanes run lane flag ≡ Some longer → Added name_of lanes run lane flag longer
  added e = by_tasks (slice_get lanes lane) refl e

-- the call was the lane's next one
pub called : {name_of : List ℕ → List ℕ} {lanes : List (List Task)} {run : Run} {lane : ℕ} {flag : Outcome} {longer : Run} → (a : Added name_of lanes run lane flag longer) → next_of name_of lanes run lane ≡ Some a.given
called {name_of} {lanes} {run} {lane} a = ap (λ (o : Option (List Task)). option_and_then (λ tasks. next_call (seen_at run.state) run.state.current (progress_of run lane tasks)) o) a.there ∙ a.calls

-- ---- lanes that poll

same_or_other : (a b : ℕ) → (a ≡ b) ⊎ (a ≢ b)
same_or_other a b =
    (elim (a == b) as (λ r. (a == b) ≡ r → (a ≡ b) ⊎ (a ≢ b)) [
      | true ↦ λ e. inl ((Decides-eqb a b).0 e)
      | false ↦ λ e. inr (λ p. apart p e)
    ]) refl
  where
    apart : a ≡ b → (a == b) ≡ false → ⊥
    apart p e = let t = (Decides-eqb a b).1 p in cc

module _ (name_of : List ℕ → List ℕ) (poller lane : ℕ) where
  no_poll : lane ≢ poller → (tasks : List Task) → AllByRecursion (IsTaskOf name_of poller lane) tasks → IsNoPoll tasks
  no_poll apart [] all = tt
  no_poll apart (task.Build job ∷ tasks) all = tt
  no_poll apart (task.Remove output ∷ tasks) all = tt
  no_poll apart (task.Poll ∷ tasks) all = apart all.0
  no_poll apart (task.Refresh ∷ tasks) all = tt
  no_poll apart (task.Ask query ∷ tasks) all = tt
  no_poll apart (task.Release ∷ tasks) all = tt
  no_poll apart (task.Collect ∷ tasks) all = tt

-- ---- one event more

module _ (laws : RunLaws) (name_of : List ℕ → List ℕ) (poller : ℕ) (lanes : List (List Task)) (ready : AreTasksOf name_of poller lanes) (run longer : Run) (lane : ℕ) (flag : Outcome)
    (agrees : LanesAgree poller lanes run) (e : extended name_of lanes run lane flag ≡ Some longer) where
  abbrev more : Added name_of lanes run lane flag longer
  more = added name_of lanes run lane flag longer e

  abbrev now : Progress
  now = progress_of run lane more.tasks

  fits : Fits (IsTaskOf name_of poller lane) now.tasks now.doing
  fits = progress_fits (IsTaskOf name_of poller lane) (seen_at run.state) more.tasks (own_events lane run.events) (ready lane more.tasks more.there)

  here : lane < length run.state.leases
  here = let within = slice_get_within lanes lane more.tasks more.there in let room = agrees.room in omega (arith, within, room)

  along : Along run.state lane now (told more.stepped.outcome now) more.stepped.state
  along =
      subst (λ (o : Option Stepped). IfSome o (λ stepped. Along run.state lane now (told stepped.outcome now) stepped.state)) more.taken
      (subst (λ (o : Option Given). IfSome o (λ g. IfSome (step name_of run.state lane g flag) (λ stepped. Along run.state lane now (told stepped.outcome now) stepped.state))) more.calls
      (next_along run.state lane here name_of (seen_at run.state) run.state.current now.tasks now.doing now.held now.loaded now.answers flag fits.1 (agrees.leases lane more.tasks more.there)))

  -- the event of the law is the one that was made
  record OwnEvent : Type 0 where
    event : Event
    outcome : event.outcome ≡ more.stepped.outcome
    goes_on : progress_of longer lane more.tasks ≡ after_event (seen_at longer.state) now event

  own_event : OwnEvent
  own_event =
      let o = laws.own name_of lanes run longer lane flag more.tasks agrees.fits e in
      let made : Event = record { lane = lane; call = call_of name_of run.state lane more.given; outcome = more.stepped.outcome } in
      let is : run.events ++ o.0 ∷ [] ≡ run.events ++ made ∷ [] = sym o.1 ∙ sym (ap (λ (r : Run). r.events) more.is) in
      let single : o.0 ∷ [] ≡ made ∷ [] = append_cancel_left run.events (o.0 ∷ []) (made ∷ []) is in
      let same : o.0 ≡ made = cc in
      record { event = o.0; outcome = ap (λ (event : Event). event.outcome) same; goes_on = o.2 }

  state_is : more.stepped.state ≡ longer.state
  state_is = ap (λ (r : Run). r.state) more.is

  own_lease : lease_of longer.state lane ≡ lease_in (progress_of longer lane more.tasks)
  own_lease =
      let o = own_event in
      ap (λ (s : State). lease_of s lane) (sym state_is)
      ∙ (event_lease (lease_of more.stepped.state lane) (seen_at longer.state) now o.event (along.lease ∙ ap (λ (outcome : Outcome). lease_in (told outcome now)) (sym o.outcome))
      ∙ ap lease_in (sym o.goes_on))

  own_import : run.state.import ≡ import_in lane now → longer.state.import ≡ import_in lane (progress_of longer lane more.tasks)
  own_import before =
      let o = own_event in
      ap (λ (s : State). s.import) (sym state_is)
      ∙ (event_import lane more.stepped.state.import (seen_at longer.state) now o.event (along.import before ∙ ap (λ (outcome : Outcome). import_in lane (told outcome now)) (sym o.outcome))
      ∙ ap (import_in lane) (sym o.goes_on))

  -- the lane's own tasks, however they were found
  same_tasks : (tasks : List Task) → slice_get lanes lane ≡ Some tasks → more.tasks ≡ tasks
  same_tasks tasks there = some_same more.tasks tasks (sym more.there ∙ there)

  by_lane : (other : ℕ) (tasks : List Task) → slice_get lanes other ≡ Some tasks → (lane ≡ other) ⊎ (lane ≢ other) → lease_of longer.state other ≡ lease_in (progress_of longer other tasks)
  by_lane other tasks there (inl is) =
      let same = same_tasks tasks (ap (slice_get lanes) is ∙ there) in
      subst (λ (n : ℕ). lease_of longer.state n ≡ lease_in (progress_of longer n tasks)) is
      (subst (λ (ts : List Task). lease_of longer.state lane ≡ lease_in (progress_of longer lane ts)) same own_lease)
  by_lane other tasks there (inr apart) =
      ap (λ (s : State). lease_of s other) (sym state_is)
      ∙ (laws.stays name_of run.state lane more.given flag more.stepped other more.taken (λ p. apart (sym p))
      ∙ (agrees.leases other tasks there
      ∙ ap lease_in (sym (laws.others name_of lanes run longer lane other flag tasks agrees.fits e apart))))

  abbrev import_by : Run → Option (List Task) → Option state.Import
  import_by r o = option_and_then (λ tasks. import_in poller (progress_of r poller tasks)) o

  other_import : (o : Option (List Task)) → lane ≢ poller → import_by run o ≡ import_by longer o
  other_import None apart = refl
  other_import (Some tasks) apart = ap (import_in poller) (sym (laws.others name_of lanes run longer lane poller flag tasks agrees.fits e apart))

  by_poller : (lane ≡ poller) ⊎ (lane ≢ poller) → longer.state.import ≡ import_of poller lanes longer
  by_poller (inl is) =
      let there : slice_get lanes poller ≡ Some more.tasks = ap (slice_get lanes) (sym is) ∙ more.there in
      let before : run.state.import ≡ import_in lane now = agrees.import ∙ (ap (import_by run) there ∙ ap (λ (n : ℕ). import_in n (progress_of run n more.tasks)) (sym is)) in
      own_import before ∙ (ap (λ (n : ℕ). import_in n (progress_of longer n more.tasks)) is ∙ ap (import_by longer) (sym there))
  by_poller (inr apart) =
      ap (λ (s : State). s.import) (sym state_is)
      ∙ (along.other (no_poll name_of poller lane apart now.tasks fits.0)
      ∙ (agrees.import
      ∙ other_import (slice_get lanes poller) apart))

  pub still_agree : LanesAgree poller lanes longer
  still_agree = record {
    fits = laws.kept name_of lanes run longer lane flag agrees.fits e;
    holds = laws.holds name_of lanes run longer lane flag agrees.fits agrees.holds e;
    room = ap (λ (s : State). length s.leases) (sym state_is) ∙ (along.room ∙ agrees.room);
    leases = λ other tasks there. by_lane other tasks there (same_or_other lane other);
    import = by_poller (same_or_other lane poller);
  }

-- ---- the first state

module _ (fits : (name_of : List ℕ → List ℕ) (script : Script) (opening : Opening) → RunFits (fresh name_of script opening))
    (holds : (name_of : List ℕ → List ℕ) (script : Script) (opening : Opening) → LanesHold (lanes_of name_of script) (fresh name_of script opening))
    (leased : (opening : Opening) (lanes lane : ℕ) → lease_of (begun opening lanes) lane ≡ None)
    (room : (opening : Opening) (lanes : ℕ) → (length (begun opening lanes).leases ≡ lanes) × (length (begun opening lanes).held ≡ lanes))
    (name_of : List ℕ → List ℕ) (poller : ℕ) (script : Script) (opening : Opening) where
  first_imported : (o : Option (List Task)) → None ≡ option_and_then (λ tasks. import_in poller (progress_of (fresh name_of script opening) poller tasks)) o
  first_imported None = refl
  first_imported (Some tasks) = first_import poller (seen_at (fresh name_of script opening).state) tasks

  pub first_agree : LanesAgree poller (lanes_of name_of script) (fresh name_of script opening)
  first_agree = record {
    fits = fits name_of script opening;
    holds = holds name_of script opening;
    room = (room opening (length script.lanes)).0 ∙ sym (length-map script.lanes (tasks_of name_of));
    leases = λ lane tasks there. leased opening (length script.lanes) lane ∙ first_lease (seen_at (fresh name_of script opening).state) tasks;
    import = first_imported (slice_get (lanes_of name_of script) poller);
  }

-- ---- one lane of a run

module _ (name_of : List ℕ → List ℕ) (poller : ℕ) (lanes : List (List Task)) (ready : AreTasksOf name_of poller lanes) (run : Run) (lane : ℕ) (tasks : List Task) (there : slice_get lanes lane ≡ Some tasks) where
  lane_fits : Fits (IsTaskOf name_of poller lane) (progress_of run lane tasks).tasks (progress_of run lane tasks).doing
  lane_fits = progress_fits (IsTaskOf name_of poller lane) (seen_at run.state) tasks (own_events lane run.events) (ready lane tasks there)

  no_import : (ts : List Task) (p : Progress) → p.tasks ≡ ts → IsNoPoll ts → import_in lane p ≡ None
  no_import [] p is n = ap (λ (q : List Task). import_at lane q p.doing) is
  no_import (task.Build job ∷ ts) p is n = ap (λ (q : List Task). import_at lane q p.doing) is
  no_import (task.Remove output ∷ ts) p is n = ap (λ (q : List Task). import_at lane q p.doing) is
  no_import (task.Poll ∷ ts) p is n = absurd n
  no_import (task.Refresh ∷ ts) p is n = ap (λ (q : List Task). import_at lane q p.doing) is
  no_import (task.Ask query ∷ ts) p is n = ap (λ (q : List Task). import_at lane q p.doing) is
  no_import (task.Release ∷ ts) p is n = ap (λ (q : List Task). import_at lane q p.doing) is
  no_import (task.Collect ∷ ts) p is n = ap (λ (q : List Task). import_at lane q p.doing) is

  pub lane_tasks : AllByRecursion (IsTaskOf name_of poller lane) (progress_of run lane tasks).tasks
  lane_tasks = lane_fits.0

  by_own : LanesAgree poller lanes run → (lane ≡ poller) ⊎ (lane ≢ poller) → IfSome (import_in lane (progress_of run lane tasks)) (λ opened. run.state.import ≡ Some opened)
  by_own agrees (inl is) =
      let there_too : slice_get lanes poller ≡ Some tasks = ap (slice_get lanes) (sym is) ∙ there in
      let whole : run.state.import ≡ import_in lane (progress_of run lane tasks) =
      agrees.import ∙ (ap (λ (o : Option (List Task)). option_and_then (λ ts. import_in poller (progress_of run poller ts)) o) there_too ∙ ap (λ (n : ℕ). import_in n (progress_of run n tasks)) (sym is)) in
      if_some (import_in lane (progress_of run lane tasks)) whole
    where
      if_some : (o : Option state.Import) → run.state.import ≡ o → IfSome o (λ opened. run.state.import ≡ Some opened)
      if_some None w = tt
      if_some (Some opened) w = w
  by_own agrees (inr apart) =
      let p = progress_of run lane tasks in
      subst (λ (o : Option state.Import). IfSome o (λ opened. run.state.import ≡ Some opened)) (sym (no_import p.tasks p refl (no_poll name_of poller lane apart p.tasks lane_fits.0))) tt

-- the state keeps of the lane what its progress says
pub lane_agrees : (name_of : List ℕ → List ℕ) (poller : ℕ) (lanes : List (List Task)) → AreTasksOf name_of poller lanes → (run : Run) → LanesAgree poller lanes run → (lane : ℕ) (tasks : List Task) → slice_get lanes lane ≡ Some tasks
    → LaneAgrees run.state lane (progress_of run lane tasks)
lane_agrees name_of poller lanes ready run agrees lane tasks there = record {
  doing = (lane_fits name_of poller lanes ready run lane tasks there).1;
  lease = agrees.leases lane tasks there;
  held = agrees.holds.held lane tasks there;
  import = by_own name_of poller lanes ready run lane tasks there agrees (same_or_other lane poller);
}
