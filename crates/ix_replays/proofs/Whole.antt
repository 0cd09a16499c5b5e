-- Whole runs: what they show, and that no held mark falls along them.
use Rattle.std.proofs.Common.{◌≡◌, ◌⊎◌, inl, inr, ℕ, ◌≤◌, ◌<◌, if◌then◌else◌, Bool, true, false, List, [], ◌∷◌, ◌++◌, length, map, Option, Some, None, is_some, IfSome, option_and_then, refl, sym, ap, ◌∙◌, subst, arith, append_assoc}
use Rattle.std.specs.List.{list_any, range_with_len}
use Rattle.std.proofs.lemmas.List.{map-append, append-nil}
use Rattle.ix_machine.specs.declared.event.Event.{Event}
use Rattle.ix_machine.specs.declared.event.Outcome.{Outcome}
use Rattle.ix_machine.specs.State.{State, held_by}
use Rattle.ix_machine.specs.Step.{Stepped}
use Rattle.ix_lanes.specs.Tasks.{Task}
use Rattle.ix_replays.specs.Laws.{NoMarkFalls, RunFits}
use Rattle.ix_machine.specs.Given.{Given}
use Rattle.ix_machine.specs.Run.{Opening}
use Rattle.ix_plan.specs.declared.plan.Script.{Script}
use Rattle.ix_replays.specs.declared.transcript.Transcript.{Transcript}
use Rattle.std.proofs.lemmas.List.Folds.{list_any-from_Any}
use Rattle.std.proofs.lemmas.List.FromFn.{length-range_with_len, get_or-range_with_len}
use Rattle.ix_replays.specs.Run.{Run, call_of, extended, has_call, next_of, run_from, run_of, turns_of, transcript_of, IsReplay, flag_of}
use Rattle.ix_replays.proofs.Flags.{step_shows}
use Rattle.ix_replays.proofs.Runs.{added, next_fits}

abbrev lane_shown : Event → ℕ
lane_shown event = event.lane

abbrev flag_shown : Event → Outcome
flag_shown event = flag_of event.outcome

module _ (name_of : List ℕ → List ℕ) (lanes : List (List Task)) where
  -- a run that went on from another
  pub at_end : (run end : Run) → (if list_any (has_call name_of lanes run) (range_with_len 0 (length lanes)) then None else Some run) ≡ Some end → run ≡ end
  at_end run end e =
      (elim (list_any (has_call name_of lanes run) (range_with_len 0 (length lanes))) as (λ b. (if b then None else Some run) ≡ Some end → run ≡ end) [
        | true ↦ λ p. absurd (cc)
        | false ↦ λ p. some_same p
      ]) e
    where
      of : Option Run → Type 0
      of None = ⊥
      of (Some r) = run ≡ r

      some_same : Some run ≡ Some end → run ≡ end
      some_same p = subst (λ (o : Option Run). of o) p refl

  -- the first of its events, and the rest of it
  pub first_event : (run end : Run) (order : List ℕ) (flags : List Outcome) (o : Option Run) → option_and_then (λ longer. run_from name_of lanes longer order flags) o ≡ Some end → (longer : Run) × (o ≡ Some longer) × (run_from name_of lanes longer order flags ≡ Some end)
  first_event run end order flags None e = absurd (cc)
  first_event run end order flags (Some longer) e = (longer, refl, e)

  pub lanes_shown : (order : List ℕ) (flags : List Outcome) (run end : Run) → run_from name_of lanes run order flags ≡ Some end → map lane_shown end.events ≡ map lane_shown run.events ++ order
  lanes_shown [] [] run end e = ap (λ (r : Run). map lane_shown r.events) (sym (at_end run end e)) ∙ sym (append-nil (map lane_shown run.events))
  lanes_shown [] (flag ∷ flags) run end e = absurd (cc)
  lanes_shown (lane ∷ order) [] run end e = absurd (cc)
  lanes_shown (lane ∷ order) (flag ∷ flags) run end e =
      let f = first_event run end order flags (extended name_of lanes run lane flag) e in
      let a = added name_of lanes run lane flag f.0 f.1 in
      lanes_shown order flags f.0 end f.2
      ∙ (ap (λ (r : Run). map lane_shown r.events ++ order) (sym a.is)
      ∙ (ap (λ (ls : List ℕ). ls ++ order) (map-append lane_shown run.events ((record { lane = lane; call = call_of name_of run.state lane a.given; outcome = a.stepped.outcome }) ∷ []))
      ∙ append_assoc (map lane_shown run.events) (lane ∷ []) order))

  pub flags_shown : (order : List ℕ) (flags : List Outcome) (run end : Run) → run_from name_of lanes run order flags ≡ Some end → map flag_shown end.events ≡ map flag_shown run.events ++ flags
  flags_shown [] [] run end e = ap (λ (r : Run). map flag_shown r.events) (sym (at_end run end e)) ∙ sym (append-nil (map flag_shown run.events))
  flags_shown [] (flag ∷ flags) run end e = absurd (cc)
  flags_shown (lane ∷ order) [] run end e = absurd (cc)
  flags_shown (lane ∷ order) (flag ∷ flags) run end e =
      let f = first_event run end order flags (extended name_of lanes run lane flag) e in
      let a = added name_of lanes run lane flag f.0 f.1 in
      let shows : flag_of a.stepped.outcome ≡ flag = subst (λ (o : Option Stepped). IfSome o (λ stepped. flag_of stepped.outcome ≡ flag)) a.taken (step_shows run.state lane name_of a.given flag) in
      flags_shown order flags f.0 end f.2
      ∙ (ap (λ (r : Run). map flag_shown r.events ++ flags) (sym a.is)
      ∙ (ap (λ (ls : List Outcome). ls ++ flags) (map-append flag_shown run.events ((record { lane = lane; call = call_of name_of run.state lane a.given; outcome = a.stepped.outcome }) ∷ []))
      ∙ (append_assoc (map flag_shown run.events) (flag_of a.stepped.outcome ∷ []) flags
      ∙ ap (λ (o : Outcome). map flag_shown run.events ++ o ∷ flags) shows)))

  -- ---- held marks

  -- the current mark and what the lane holds are at least so great
  record AtLeast (low lane : ℕ) (s : State) : Type 0 where
    current : low ≤ s.current
    held : IfSome (held_by s lane) (λ mark. low ≤ mark)

  low_held : (low : ℕ) (before : Option ℕ) (current : ℕ) (after : Option ℕ) → low ≤ current → IfSome before (λ mark. low ≤ mark) → IfSome after (λ later. (before ≡ Some later) ⊎ (current ≤ later)) → IfSome after (λ mark. low ≤ mark)
  low_held low before current None c h t = tt
  low_held low before current (Some later) c h (inl e) = subst (λ (o : Option ℕ). IfSome o (λ mark. low ≤ mark)) e h
  low_held low before current (Some later) c h (inr q) = omega (arith, c, q)

  stays_least : (low lane : ℕ) (s t : State) → NoMarkFalls s t → AtLeast low lane s → AtLeast low lane t
  stays_least low lane s t falls a = record {
    current = (let c = a.current in let d = falls.current in omega (arith, c, d));
    held = low_held low (held_by s lane) s.current (held_by t lane) a.current a.held (falls.held lane);
  }

  run_least : (low of_lane : ℕ) (order : List ℕ) (flags : List Outcome) (run end : Run) → RunFits run → run_from name_of lanes run order flags ≡ Some end → AtLeast low of_lane run.state → RunFits end × AtLeast low of_lane end.state
  run_least low of_lane [] [] run end fits e a = subst (λ (r : Run). RunFits r × AtLeast low of_lane r.state) (at_end run end e) (fits, a)
  run_least low of_lane [] (flag ∷ flags) run end fits e a = absurd (cc)
  run_least low of_lane (lane ∷ order) [] run end fits e a = absurd (cc)
  run_least low of_lane (lane ∷ order) (flag ∷ flags) run end fits e a =
      let f = first_event run end order flags (extended name_of lanes run lane flag) e in
      let n = next_fits name_of lanes run lane flag f.0 fits f.1 in
      run_least low of_lane order flags f.0 end n.fits f.2 (stays_least low of_lane run.state f.0.state n.falls a)

  zero_least : (o : Option ℕ) → IfSome o (λ mark. 0 ≤ mark)
  zero_least None = tt
  zero_least (Some mark) = omega arith

  pub end_fits : (order : List ℕ) (flags : List Outcome) (run end : Run) → RunFits run → run_from name_of lanes run order flags ≡ Some end → RunFits end
  end_fits order flags run end fits e = (run_least 0 0 order flags run end fits e (record { current = omega arith; held = zero_least (held_by run.state 0) })).0

  pub held_rises : (order : List ℕ) (flags : List Outcome) (run end : Run) (lane earlier later : ℕ) → RunFits run → run_from name_of lanes run order flags ≡ Some end
      → held_by run.state lane ≡ Some earlier → held_by end.state lane ≡ Some later → earlier ≤ later
  held_rises order flags run end lane earlier later fits e before after =
      let below : earlier ≤ run.state.current = subst (λ (o : Option ℕ). IfSome o (λ m. m ≤ run.state.current)) before (fits.marks.held lane) in
      let least = run_least earlier lane order flags run end fits e (record { current = below; held = subst (λ (o : Option ℕ). IfSome o (λ m. earlier ≤ m)) (sym before) (omega arith) }) in
      subst (λ (o : Option ℕ). IfSome o (λ m. earlier ≤ m)) after least.1.held

  -- ---- nothing is left over

  none_left : (run end : Run) → (if list_any (has_call name_of lanes run) (range_with_len 0 (length lanes)) then None else Some run) ≡ Some end → list_any (has_call name_of lanes end) (range_with_len 0 (length lanes)) ≡ false
  none_left run end e =
      subst (λ (r : Run). list_any (has_call name_of lanes r) (range_with_len 0 (length lanes)) ≡ false) (at_end run end e)
      ((elim (list_any (has_call name_of lanes run) (range_with_len 0 (length lanes))) as (λ b. (if b then None else Some run) ≡ Some end → b ≡ false) [
        | true ↦ λ p. absurd (cc)
        | false ↦ λ p. refl
      ]) e)

  ends_with_none : (order : List ℕ) (flags : List Outcome) (run end : Run) → run_from name_of lanes run order flags ≡ Some end → list_any (has_call name_of lanes end) (range_with_len 0 (length lanes)) ≡ false
  ends_with_none [] [] run end e = none_left run end e
  ends_with_none [] (flag ∷ flags) run end e = absurd (cc)
  ends_with_none (lane ∷ order) [] run end e = absurd (cc)
  ends_with_none (lane ∷ order) (flag ∷ flags) run end e =
      let f = first_event run end order flags (extended name_of lanes run lane flag) e in
      ends_with_none order flags f.0 end f.2

  no_call : (o : Option Given) → is_some o ≡ false → o ≡ None
  no_call None e = refl
  no_call (Some given) e = absurd (cc)

  clash : (b : Bool) → b ≡ true → b ≡ false → ⊥
  clash b p q = cc

  pub each_ended : (order : List ℕ) (flags : List Outcome) (run end : Run) (lane : ℕ) → run_from name_of lanes run order flags ≡ Some end → lane < length lanes → next_of name_of lanes end lane ≡ None
  each_ended order flags run end lane e within =
      let none = ends_with_none order flags run end e in
      let test : ℕ → Bool = has_call name_of lanes end in
      no_call (next_of name_of lanes end lane)
      ((elim (has_call name_of lanes end lane) as (λ b. has_call name_of lanes end lane ≡ b → b ≡ false) [
        | true ↦ λ is. absurd (clash (list_any (has_call name_of lanes end) (range_with_len 0 (length lanes)))
            (list_any-from_Any (has_call name_of lanes end) (range_with_len 0 (length lanes))
            (lane, lane, (let n = length-range_with_len 0 (length lanes) in omega (arith, n, within)), (let g = get_or-range_with_len 0 (length lanes) lane lane within in omega (arith, g)), is))
            none)
        | false ↦ λ is. refl
      ]) refl)

-- ---- one replay

same_run : (a b : Run) → Some a ≡ Some b → a ≡ b
same_run a b p = subst (λ (o : Option Run). of o) p refl
  where
    of : Option Run → Type 0
    of None = ⊥
    of (Some r) = a ≡ r

pub one_replay : (name_of : List ℕ → List ℕ) (script : Script) (opening : Opening) (first second : Transcript) → IsReplay name_of script opening first → IsReplay name_of script opening second
    → map flag_shown first.events ≡ map flag_shown second.events → first ≡ second
one_replay name_of script opening first second a b same =
    let flags_a : map flag_shown a.run.events ≡ map flag_shown first.events = ap (λ (t : Transcript). map flag_shown t.events) (sym a.shows) in
    let flags_b : map flag_shown b.run.events ≡ map flag_shown second.events = ap (λ (t : Transcript). map flag_shown t.events) (sym b.shows) in
    let flags : map flag_shown a.run.events ≡ map flag_shown b.run.events = flags_a ∙ (same ∙ sym flags_b) in
    let runs = sym a.runs ∙ (ap (λ (fs : List Outcome). run_of name_of script opening (turns_of name_of script opening fs) fs) flags ∙ b.runs) in
    a.shows ∙ (ap (transcript_of name_of script opening) (same_run a.run b.run runs) ∙ sym b.shows)
