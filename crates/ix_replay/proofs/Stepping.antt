-- A call of a lane takes what stands for a run on to the next run.
use Rattle.std.proofs.Common.{◌≡◌, ◌≢◌, ℕ, Bool, true, false, List, [], ◌∷◌, ◌++◌, set, slice_get, Option, Some, None, IfSome, is_some, option_map, refl, sym, ap, ◌∙◌, subst}
use Rattle.std.specs.List.{AllByRecursion}
use Rattle.std.proofs.lemmas.List.{length-set}
use Rattle.ix_model.specs.Units.{Units}
use Rattle.ix_dir.specs.State.{DirState}
use Rattle.ix_shelf.specs.Shelf.{OnShelf}
use Rattle.ix_machine.specs.declared.event.Event.{Event}
use Rattle.ix_machine.specs.declared.event.Purpose.TheVariants as purpose
use Rattle.ix_machine.specs.Given as given
use Rattle.ix_machine.specs.Needs.{seen_at}
use Rattle.ix_machine.specs.Run.{MayLoad}
use Rattle.ix_machine.specs.State.{State}
use Rattle.ix_machine.specs.Step.{Stepped, ended}
use Rattle.ix_ledger.specs.Books.{Books}
use Rattle.ix_library.specs.declared.known.KnownStamps.{KnownStamps}
use Rattle.ix_library.specs.StandsFor.{StandsFor}
use Rattle.ix_import.specs.Importing.{Importing as Importer}
use Rattle.ix_lanes.specs.Calls.{next_turn}
use Rattle.ix_lanes.specs.Progress.{Progress, is_asking, settled}
use Rattle.ix_lanes.specs.Tasks.{Task}
use Rattle.ix_lanes.specs.Views.{Under}
use Rattle.ix_replays.specs.Run.{Run, call_of, flag_of, progress_of, with_event}
use Rattle.ix_allowed.specs.Agree.{IsTaskOf, LaneAgrees, LanesAgree}
use Rattle.ix_turn_order.specs.Order.{GoesOn}
use Rattle.ix_polls.specs.Following.{IsUnderWay, leaves_import}
use Rattle.ix_seats.specs.declared.made.Made.{Made}
use Rattle.ix_seats.specs.Made.{after, IsGiven}
use Rattle.ix_seats.specs.Seated.{Seated}
use Rattle.ix_seats.specs.Seats.{IsSeat, lacks}
use Rattle.ix_calls.specs.Calling.{event_of, outcome_of}
use Rattle.ix_calls.specs.Turns.{IsAtTurn, IsCall}
use Rattle.ix_replay.specs.Given.{StepLaws}
use Rattle.ix_turns.specs.Ended.{is_missed}
use Rattle.ix_replay.specs.Left.{LeavesBehind}
use Rattle.ix_replay.specs.Runs.{IsInRun, IsRun}
use Rattle.ix_replay.proofs.Leaving.{held_there, not_missed, still_left}
use Rattle.ix_replay.proofs.Places.{each_place, there_too}
use Rattle.ix_replay.proofs.Settling.{call_polls, no_import, settled_held, settled_way}

-- a seat before the call of its lane: the asks in front that lack no record are answered, and this record is lacking
pub record IsReady (old new : Seated) (wanted : Option (List ℕ)) : Type 0 where
  pub comes : (seen : ℕ → Units) → IsSeat seen old → new.lane.progress ≡ settled seen old.lane.progress
  pub wants : (seen : ℕ → Units) → IsSeat seen old → wanted ≡ lacks seen new.lane.progress
  pub asking : is_some wanted ≡ is_asking new.lane.progress
  pub seat : (seen : ℕ → Units) → IsSeat seen old → IsSeat seen new
  pub same : (seen : ℕ → Units) → IsSeat seen old → settled seen new.lane.progress ≡ settled seen old.lane.progress

-- a seat behind the call of its lane
pub record IsTold (old new : Seated) (made : Made) : Type 0 where
  pub progress : new.lane.progress ≡ after made old.lane.progress
  pub seat : (seen : ℕ → Units) → IsSeat seen old → IsGiven seen old.lane.progress made → IsSeat seen new

none_left : {X : Type 0} (o : Option X) → false ≡ is_some o → o ≡ None
none_left None is = refl
none_left (Some x) is = absurd (cc)

module _ (laws : StepLaws) (name_of : List ℕ → List ℕ) (lanes : List (List Task)) (run : Run) (books : Books) (shelf : OnShelf) (known : KnownStamps) (dir : DirState) (importing : Importer) (seats : List Seated)
    (r : IsRun name_of lanes run books shelf known dir importing seats) (lane : ℕ) (old new : Seated) (wanted : Option (List ℕ)) (there : slice_get seats lane ≡ Some old) (ready : IsReady old new wanted) where
  own_tasks : (own : List Task) × (slice_get lanes lane ≡ Some own)
  own_tasks = there_too seats lanes lane old (sym r.count) there

  -- ---- the lane before its call

  module _ (own : List Task) (its : slice_get lanes lane ≡ Some own) where
    before : IsInRun run lane own importing old
    before = r.seated lane own old its there

    as_far : new.lane.progress ≡ progress_of run lane own
    as_far = ready.comes (seen_at run.state) before.sits ∙ before.progress

    load_may : (o : Option (List ℕ)) → o ≡ lacks (seen_at run.state) new.lane.progress → is_some o ≡ is_asking new.lane.progress → IfSome o (λ name. MayLoad run.state lane name purpose.Ask)
    load_may None is asking = tt
    load_may (Some name) is asking =
        let p = new.lane.progress in
        let all = subst (λ (q : Progress). AllByRecursion (IsTaskOf name_of r.poller lane) q.tasks) (sym as_far) (laws.tasks name_of r.poller lanes run lane own r.tasks its) in
        let agrees = subst (λ (q : Progress). LaneAgrees run.state lane q) (sym as_far) (laws.each name_of r.poller lanes run lane own r.tasks r.agrees its) in
        laws.may name_of r.poller run.state lane p (given.Load name purpose.Ask) all agrees
        (laws.loads (seen_at run.state) run.state.current p (sym asking) ∙ ap (λ (w : Option (List ℕ)). option_map (λ n. given.Load n purpose.Ask) w) (sym is))

    turn_at : IsAtTurn run.state lane new.lane.progress importing wanted
    turn_at = record {
      held = r.agrees.holds.held lane own its ∙ ap (λ (q : Progress). q.held) (sym as_far);
      imports = r.imports;
      way = subst (λ (q : Progress). IsUnderWay run.state lane q.doing importing) (sym as_far) before.way;
      lacking = ready.wants (seen_at run.state) before.sits;
      needed = load_may wanted (ready.wants (seen_at run.state) before.sits) ready.asking;
    }

  pub at_turn : IsAtTurn run.state lane new.lane.progress importing wanted
  at_turn = turn_at own_tasks.0 own_tasks.1

  pub turn_shown : (shown : Under) → shown ≡ new.lane → IsAtTurn run.state lane shown.progress importing wanted
  turn_shown shown is = subst (λ (l : Under). IsAtTurn run.state lane l.progress importing wanted) (sym is) at_turn

  -- ---- no call

  module _ (own : List Task) (its : slice_get lanes lane ≡ Some own) where
    in_run_still : IsInRun run lane own importing new
    in_run_still = record {
      sits = ready.seat (seen_at run.state) (before own its).sits;
      progress = ready.same (seen_at run.state) (before own its).sits ∙ (before own its).progress;
      way = (before own its).way;
    }

    run_still : IsRun name_of lanes run books shelf known dir importing (set seats lane new)
    run_still = record {
      poller = r.poller;
      tasks = r.tasks;
      agrees = r.agrees;
      stands = r.stands;
      events = r.events;
      imports = r.imports;
      count = length-set seats lane new ∙ r.count;
      seated = each_place (λ (other : ℕ) (tasks : List Task) (seat : Seated). IsInRun run other tasks importing seat) lanes seats lane own old new its there in_run_still (λ other tasks seat apart at sat. r.seated other tasks seat at sat);
    }

    ends : next_turn new.lane.progress ≡ None → GoesOn name_of lanes run lane false run
    ends none = laws.over name_of lanes run lane own its (ap (λ (q : Progress). next_turn q) (sym (as_far own its)) ∙ none)

  pub stays : next_turn new.lane.progress ≡ None → (next : Run) × GoesOn name_of lanes run lane false next × IsRun name_of lanes next books shelf known dir importing (set seats lane new)
      × LeavesBehind name_of run next dir.moves dir.moves
  stays none = (run, ends own_tasks.0 own_tasks.1 none, run_still own_tasks.0 own_tasks.1, still_left laws.still name_of run dir.moves (held_there name_of run.state shelf dir.moves r.stands.holds))

  pub stays_shown : (shown : Under) → shown ≡ new.lane → (o : Option Made) → o ≡ None → is_some o ≡ is_some (next_turn shown.progress)
      → (next : Run) × GoesOn name_of lanes run lane false next × IsRun name_of lanes next books shelf known dir importing (set seats lane new) × LeavesBehind name_of run next dir.moves dir.moves
  stays_shown shown is o none same =
      stays (none_left (next_turn new.lane.progress) (ap (λ (m : Option Made). is_some m) (sym none) ∙ (same ∙ ap (λ (l : Under). is_some (next_turn l.progress)) is)))

  -- ---- a call

  module _ (books' : Books) (shelf' : OnShelf) (known' : KnownStamps) (dir' : DirState) (importing' : Importer) (made : Made) (final : Seated) (tells : IsTold new final made) (missed : is_missed (outcome_of made) ≡ true → dir.moves ≡ None) where
    module _ (own : List Task) (its : slice_get lanes lane ≡ Some own)
        (k : IsCall name_of run.state lane (progress_of run lane own) books.events dir made books'.events books'.kept shelf' known' dir' importing importing') where
      abbrev stepped : Stepped
      stepped = ended (outcome_of made) k.is.takes.next

      abbrev next : Run
      next = with_event name_of run lane k.is.given stepped

      goes : GoesOn name_of lanes run lane true next
      goes = laws.made name_of lanes run lane own k.is.given (flag_of (outcome_of made)) stepped its k.is.call k.is.takes.taken

      agrees_then : LanesAgree r.poller lanes next
      agrees_then = laws.kept name_of r.poller lanes run next lane goes.0 r.tasks r.agrees goes.1

      -- the lane itself
      own_is : settled (seen_at next.state) (after made (progress_of run lane own)) ≡ progress_of next lane own
      own_is =
          ap (λ (q : Progress). settled (seen_at next.state) q) k.is.tells
          ∙ sym (laws.own name_of lanes run lane own k.is.given (flag_of (outcome_of made)) stepped r.agrees.fits its k.is.call k.is.takes.taken)

      own_held : IfSome new.lane.progress.held (λ mark. seen_at run.state mark ≡ seen_at next.state mark)
      own_held =
          subst (λ (q : Progress). IfSome q.held (λ mark. seen_at run.state mark ≡ seen_at next.state mark)) (sym (as_far own its))
          (laws.held name_of lanes run next lane lane goes.0 own r.agrees.fits r.agrees.holds goes.1 its)

      own_then : IsInRun next lane own importing' final
      own_then = record {
        sits =
            tells.seat (seen_at next.state) (laws.seat (seen_at run.state) (seen_at next.state) new own_held (ready.seat (seen_at run.state) (before own its).sits))
            (subst (λ (q : Progress). IsGiven (seen_at next.state) q made) (sym (as_far own its)) k.is.gives);
        progress =
            ap (λ (q : Progress). settled (seen_at next.state) q) (tells.progress ∙ ap (λ (q : Progress). after made q) (as_far own its)) ∙ own_is;
        way =
            subst (λ (q : Progress). IsUnderWay next.state lane q.doing importing') own_is
            (settled_way (seen_at next.state) next.state lane importing' (after made (progress_of run lane own)) k.way);
      }

      -- another lane
      module _ (other : ℕ) (tasks : List Task) (seat : Seated) (apart : lane ≢ other) (at : slice_get lanes other ≡ Some tasks) (sat : slice_get seats other ≡ Some seat) where
        first : IsInRun run other tasks importing seat
        first = r.seated other tasks seat at sat

        as_before : progress_of next other tasks ≡ progress_of run other tasks
        as_before = laws.others name_of lanes run next lane other goes.0 tasks r.agrees.fits goes.1 apart

        held_before : IfSome seat.lane.progress.held (λ mark. seen_at run.state mark ≡ seen_at next.state mark)
        held_before =
            subst (λ (o : Option ℕ). IfSome o (λ mark. seen_at run.state mark ≡ seen_at next.state mark))
            (ap (λ (q : Progress). q.held) (sym first.progress) ∙ settled_held (seen_at run.state) seat.lane.progress)
            (laws.held name_of lanes run next lane other goes.0 tasks r.agrees.fits r.agrees.holds goes.1 at)

        way_then : (b : Bool) → leaves_import k.is.given ≡ b → IsUnderWay next.state other (progress_of next other tasks).doing importing'
        way_then true on =
            laws.under_way name_of run.state lane k.is.given (flag_of (outcome_of made)) stepped importing' other (progress_of next other tasks).doing on k.is.takes.taken
            (subst (λ (i : Importer). IsUnderWay run.state other (progress_of next other tasks).doing i) (sym (k.aside on))
            (subst (λ (q : Progress). IsUnderWay run.state other q.doing importing) (sym as_before) first.way))
        way_then false off =
            no_import name_of r.poller other (progress_of next other tasks).tasks (progress_of next other tasks).doing next.state importing' (laws.tasks name_of r.poller lanes next other tasks r.tasks at)
            (laws.each name_of r.poller lanes next other tasks r.tasks agrees_then at).doing
            (λ polls. apart (call_polls (seen_at run.state) run.state.current (progress_of run lane own) name_of r.poller lane k.is.given (laws.tasks name_of r.poller lanes run lane own r.tasks its) k.is.call off ∙ sym polls))

        other_then : IsInRun next other tasks importing' seat
        other_then = record {
          sits = laws.seat (seen_at run.state) (seen_at next.state) seat held_before first.sits;
          progress = sym (laws.settles (seen_at run.state) (seen_at next.state) seat.lane.progress held_before) ∙ (first.progress ∙ sym as_before);
          way = way_then (leaves_import k.is.given) refl;
        }

      run_then : IsRun name_of lanes next books' shelf' known' dir' importing' (set seats lane final)
      run_then = record {
        poller = r.poller;
        tasks = r.tasks;
        agrees = agrees_then;
        stands = k.is.takes.stands;
        events = k.is.event ∙ ap (λ (es : List Event). es ++ event_of lane (call_of name_of run.state lane k.is.given) made ∷ []) r.events;
        imports = k.imports;
        count = length-set seats lane final ∙ r.count;
        seated = each_place (λ (other : ℕ) (tasks : List Task) (seat : Seated). IsInRun next other tasks importing' seat) lanes seats lane own old final its there own_then other_then;
      }

      left : LeavesBehind name_of run next dir.moves dir'.moves
      left = record {
        adds = k.is.takes.adds;
        grows = laws.grows name_of run.state lane k.is.given (flag_of (outcome_of made)) stepped k.is.takes.taken;
        prefixes = k.is.takes.leaves;
        more = event_of lane (call_of name_of run.state lane k.is.given) made ∷ [];
        came = refl;
        found = (not_missed (is_missed (outcome_of made)) dir.moves r.stands.holds.told missed r.stands.holds.is, tt);
      }

      goes_on : (after_it : Run) × GoesOn name_of lanes run lane true after_it × IsRun name_of lanes after_it books' shelf' known' dir' importing' (set seats lane final)
          × LeavesBehind name_of run after_it dir.moves dir'.moves
      goes_on = (next, goes, run_then, left)

    pub steps : IsCall name_of run.state lane new.lane.progress books.events dir made books'.events books'.kept shelf' known' dir' importing importing'
        → (next : Run) × GoesOn name_of lanes run lane true next × IsRun name_of lanes next books' shelf' known' dir' importing' (set seats lane final) × LeavesBehind name_of run next dir.moves dir'.moves
    steps call =
        goes_on own_tasks.0 own_tasks.1
        (subst (λ (q : Progress). IsCall name_of run.state lane q books.events dir made books'.events books'.kept shelf' known' dir' importing importing') (as_far own_tasks.0 own_tasks.1) call)

    pub steps_shown : (shown : Under) → shown ≡ new.lane → (o : Option Made) → o ≡ Some made
        → ((s : State) → StandsFor name_of s books.kept shelf known dir → IsAtTurn s lane shown.progress importing wanted
        → IfSome o (λ m. IsCall name_of s lane shown.progress books.events dir m books'.events books'.kept shelf' known' dir' importing importing'))
        → (next : Run) × GoesOn name_of lanes run lane true next × IsRun name_of lanes next books' shelf' known' dir' importing' (set seats lane final) × LeavesBehind name_of run next dir.moves dir'.moves
    steps_shown shown is o some called =
        let call : IsCall name_of run.state lane shown.progress books.events dir made books'.events books'.kept shelf' known' dir' importing importing' =
        subst (λ (m : Option Made). IfSome m (λ x. IsCall name_of run.state lane shown.progress books.events dir x books'.events books'.kept shelf' known' dir' importing importing')) some
        (called run.state r.stands (turn_shown shown is)) in
        steps (subst (λ (l : Under). IsCall name_of run.state lane l.progress books.events dir made books'.events books'.kept shelf' known' dir' importing importing') is call)

-- from what settling a seat and making room in it say
pub made_ready : (old between new : Seated) (wanted : Option (List ℕ)) → ((seen : ℕ → Units) → IsSeat seen old → between.lane.progress ≡ settled seen old.lane.progress)
    → ((seen : ℕ → Units) → IsSeat seen old → wanted ≡ lacks seen between.lane.progress) → is_some wanted ≡ is_asking between.lane.progress → ((seen : ℕ → Units) → IsSeat seen old → IsSeat seen between)
    → ((seen : ℕ → Units) → IsSeat seen old → settled seen between.lane.progress ≡ settled seen old.lane.progress) → new.lane.progress ≡ between.lane.progress → ((seen : ℕ → Units) → IsSeat seen between → IsSeat seen new)
    → IsReady old new wanted
made_ready old between new wanted comes wants asking seat same still seat_still = record {
  comes = λ seen sits. still ∙ comes seen sits;
  wants = λ seen sits. wants seen sits ∙ ap (λ (p : Progress). lacks seen p) (sym still);
  asking = asking ∙ ap (λ (p : Progress). is_asking p) (sym still);
  seat = λ seen sits. seat_still seen (seat seen sits);
  same = λ seen sits. ap (λ (p : Progress). settled seen p) still ∙ same seen sits;
}
