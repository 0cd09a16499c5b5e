-- Steps, and the turns of a replay.
use Rattle.std.proofs.Common.{◌≡◌, ◌≢◌, inl, inr, ◌⊎◌, ℕ, zero, suc, ◌+◌, ◌≤◌, ◌<◌, ◌==◌, ◌||◌, if◌then◌else◌, Bool, true, false, cond, List, [], ◌∷◌, ◌++◌, length, map, Option, Some, None, option_map, option_and_then, refl, sym, ap, ◌∙◌, subst, arith, append_assoc}
use Rattle.std.specs.List.{find, list_any, range_with_len}
use Rattle.std.proofs.lemmas.Bool.Decides.{Decides-eqb}
use Rattle.std.proofs.lemmas.List.{append-nil}
use Rattle.ix_machine.specs.declared.event.Event.{Event}
use Rattle.ix_machine.specs.declared.event.Outcome.{Outcome}
use Rattle.ix_machine.specs.Run.{Opening}
use Rattle.ix_plan.specs.declared.plan.Script.{Script}
use Rattle.ix_lanes.specs.Tasks.{Task, tasks_of}
use Rattle.ix_replays.specs.Laws.{RunFits}
use Rattle.ix_replays.specs.Run.{IsReplay, Run, extended, flag_of, fresh, has_call, lanes_of, next_lane, run_from, run_of, transcript_of, turns_from, turns_of}
use Rattle.ix_turn_order.specs.Order.{ComesTo, GoesOn, HaveEnded}
use Rattle.ix_turn_order.proofs.Calls.{has_made}

-- ---- the first of a range that passes a test

pub same_or_not : (a b : ℕ) → (a ≡ b) ⊎ (a ≢ b)
same_or_not a b =
    (elim (a == b) as (λ r. (a == b) ≡ r → (a ≡ b) ⊎ (a ≢ b)) [
      | true ↦ λ e. inl ((Decides-eqb a b).0 e)
      | false ↦ λ e. inr (λ p. clash (a == b) ((Decides-eqb a b).1 p) e)
    ]) refl
  where
    clash : (b : Bool) → b ≡ true → b ≡ false → ⊥
    clash b p q = cc

module _ (p : ℕ → Bool) where
  find_first : (n a k : ℕ) → ((j : ℕ) → a ≤ j → j < k → p j ≡ false) → a ≤ k → k < a + n → p k ≡ true → find p (range_with_len a n) ≡ Some k
  find_first zero a k before low high passes = absurd (omega (arith, low, high))
  find_first (suc n) a k before low high passes =
      elim (same_or_not a k) as (λ o. find p (range_with_len a (suc n)) ≡ Some k) [
        | inl same ↦ ap (λ (b : Bool). cond b (Some a) (find p (range_with_len (a + 1) n))) (ap p same ∙ passes) ∙ ap (λ (i : ℕ). Some i) same
        | inr apart ↦ ap (λ (b : Bool). cond b (Some a) (find p (range_with_len (a + 1) n))) (before a (omega arith) (omega (arith, low, apart)))
            ∙ find_first n (a + 1) k (λ j q r. before j (omega (arith, q)) r) (omega (arith, low, apart)) (omega (arith, high)) passes
      ]

  none_passes : (n a : ℕ) → ((j : ℕ) → a ≤ j → j < a + n → p j ≡ false) → list_any p (range_with_len a n) ≡ false
  none_passes zero a fails = refl
  none_passes (suc n) a fails =
      ap (λ (b : Bool). b || list_any p (range_with_len (a + 1) n)) (fails a (omega arith) (omega arith))
      ∙ none_passes n (a + 1) (λ j q r. fails j (omega (arith, q)) (omega (arith, r)))

abbrev turn_or : ℕ → List ℕ → Option (ℕ × List ℕ) → Bool → Option (ℕ × List ℕ)
turn_or lane rest other b = if b then Some (lane, rest) else other

-- as in the definition of the turns
abbrev turn_and : (Run → List ℕ → List ℕ) → ℕ × List ℕ → Option Run → List ℕ
turn_and more turn None = turn.0 ∷ []
turn_and more turn (Some longer) = turn.0 ∷ more longer turn.1

abbrev take_turn : (List ℕ → List ℕ) → List (List Task) → (Run → List ℕ → List ℕ) → Run → Outcome → Option (ℕ × List ℕ) → List ℕ
take_turn name_of lanes more run flag None = []
take_turn name_of lanes more run flag (Some turn) = turn_and more turn (extended name_of lanes run turn.0 flag)

abbrev last_turn : Option ℕ → Option (ℕ × List ℕ)
last_turn o = option_map (λ lane. (lane, [])) o

module _ (name_of : List ℕ → List ℕ) (lanes : List (List Task)) where
  -- ---- whose turn it is

  has_turn : (run : Run) (lane : ℕ) (rest : List ℕ) → has_call name_of lanes run lane ≡ true → next_lane name_of lanes run (lane ∷ rest) ≡ Some (lane, rest)
  has_turn run lane rest has = ap (turn_or lane rest (next_lane name_of lanes run rest)) has

  has_none : (run : Run) (lane : ℕ) (rest : List ℕ) → has_call name_of lanes run lane ≡ false → next_lane name_of lanes run (lane ∷ rest) ≡ next_lane name_of lanes run rest
  has_none run lane rest ended = ap (turn_or lane rest (next_lane name_of lanes run rest)) ended

  has_first : (run : Run) (lane : ℕ) → lane < length lanes → HaveEnded name_of lanes run lane → has_call name_of lanes run lane ≡ true → next_lane name_of lanes run [] ≡ Some (lane, [])
  has_first run lane within ended has =
      ap last_turn (find_first (has_call name_of lanes run) (length lanes) 0 lane (λ j q r. ended j r) (omega arith) (omega (arith, within)) has)

  -- ---- one turn

  skips : (flags : List Outcome) (run : Run) (lane : ℕ) (rest : List ℕ) → has_call name_of lanes run lane ≡ false → turns_from name_of lanes flags run (lane ∷ rest) ≡ turns_from name_of lanes flags run rest
  skips [] run lane rest ended = refl
  skips (flag ∷ flags) run lane rest ended = ap (take_turn name_of lanes (turns_from name_of lanes flags) run flag) (has_none run lane rest ended)

  turn : (flag : Outcome) (flags : List Outcome) (run next : Run) (order rest : List ℕ) (lane : ℕ) → next_lane name_of lanes run order ≡ Some (lane, rest) → extended name_of lanes run lane flag ≡ Some next
      → turns_from name_of lanes (flag ∷ flags) run order ≡ lane ∷ turns_from name_of lanes flags next rest
  turn flag flags run next order rest lane whose goes =
      ap (take_turn name_of lanes (turns_from name_of lanes flags) run flag) whose ∙ ap (turn_and (turns_from name_of lanes flags) (lane, rest)) goes

  pub begins : (run : Run) (order : List ℕ) → RunFits run → ComesTo name_of lanes run order run order
  begins run order fits = record { flags = []; turns = []; takes = λ later. refl; runs = λ next later. refl; fits = fits }

  skipped : (start run : Run) (order rest : List ℕ) (lane : ℕ) → ComesTo name_of lanes start order run (lane ∷ rest) → has_call name_of lanes run lane ≡ false → ComesTo name_of lanes start order run rest
  skipped start run order rest lane c ended = record {
    flags = c.flags;
    turns = c.turns;
    takes = λ later. c.takes later ∙ ap (λ (ts : List ℕ). c.turns ++ ts) (skips later run lane rest ended);
    runs = c.runs;
    fits = c.fits;
  }

  taken : (start run next : Run) (order left rest : List ℕ) (lane : ℕ) (flag : Outcome) → ComesTo name_of lanes start order run left → next_lane name_of lanes run left ≡ Some (lane, rest)
      → extended name_of lanes run lane flag ≡ Some next → RunFits next → ComesTo name_of lanes start order next rest
  taken start run next order left rest lane flag c whose goes fits = record {
    flags = c.flags ++ flag ∷ [];
    turns = c.turns ++ lane ∷ [];
    takes = λ later. ap (λ (fs : List Outcome). turns_from name_of lanes fs start order) (append_assoc c.flags (flag ∷ []) later)
        ∙ (c.takes (flag ∷ later)
        ∙ (ap (λ (ts : List ℕ). c.turns ++ ts) (turn flag later run next left rest lane whose goes)
        ∙ sym (append_assoc c.turns (lane ∷ []) (turns_from name_of lanes later next rest))));
    runs = λ more later. ap (λ (ts : List ℕ). run_from name_of lanes start ts ((c.flags ++ flag ∷ []) ++ later)) (append_assoc c.turns (lane ∷ []) more)
        ∙ (ap (λ (fs : List Outcome). run_from name_of lanes start (c.turns ++ lane ∷ more) fs) (append_assoc c.flags (flag ∷ []) later)
        ∙ (c.runs (lane ∷ more) (flag ∷ later)
        ∙ ap (λ (o : Option Run). option_and_then (λ longer. run_from name_of lanes longer more later) o) goes));
    fits = fits;
  }

  module _ (kept : (run longer : Run) (lane : ℕ) (flag : Outcome) → RunFits run → extended name_of lanes run lane flag ≡ Some longer → RunFits longer) where
    pub ordered : (start run next : Run) (order rest : List ℕ) (lane : ℕ) (made : Bool) → ComesTo name_of lanes start order run (lane ∷ rest) → GoesOn name_of lanes run lane made next
        → ComesTo name_of lanes start order next rest
    ordered start run next order rest lane true c goes =
        taken start run next order (lane ∷ rest) rest lane goes.0 c (has_turn run lane rest (has_made name_of lanes run next lane goes.0 goes.1)) goes.1 (kept run next lane goes.0 c.fits goes.1)
    ordered start run next order rest lane false c goes =
        subst (λ (r : Run). ComesTo name_of lanes start order r rest) (sym goes.0) (skipped start run order rest lane c goes.1)

    pub first : (start run next : Run) (order : List ℕ) (lane : ℕ) (made : Bool) → lane < length lanes → ComesTo name_of lanes start order run [] → HaveEnded name_of lanes run lane
        → GoesOn name_of lanes run lane made next → ComesTo name_of lanes start order next []
    first start run next order lane true within c ended goes =
        taken start run next order [] [] lane goes.0 c (has_first run lane within ended (has_made name_of lanes run next lane goes.0 goes.1)) goes.1 (kept run next lane goes.0 c.fits goes.1)
    first start run next order lane false within c ended goes = subst (λ (r : Run). ComesTo name_of lanes start order r []) (sym goes.0) c

  -- ---- the end

  ends : (run : Run) → HaveEnded name_of lanes run (length lanes) → run_from name_of lanes run [] [] ≡ Some run
  ends run ended =
      ap (λ (b : Bool). if b then None else Some run) (none_passes (has_call name_of lanes run) (length lanes) 0 (λ j q r. ended j (omega (arith, r))))

as_many : {A B : Type 0} (f : A → B) (xs : List A) → length (map f xs) ≡ length xs
as_many f [] = refl
as_many f (x ∷ xs) = let rest = as_many f xs in omega (arith, rest)

abbrev flag_shown : Event → Outcome
flag_shown event = flag_of event.outcome

pub shown : (name_of : List ℕ → List ℕ) (script : Script) (opening : Opening)
    (flags : (order : List ℕ) (flags : List Outcome) (run : Run) → run_of name_of script opening order flags ≡ Some run → map flag_shown run.events ≡ flags)
    (run : Run) → ComesTo name_of (lanes_of name_of script) (fresh name_of script opening) script.order run [] → HaveEnded name_of (lanes_of name_of script) run (length script.lanes)
    → (replay : IsReplay name_of script opening (transcript_of name_of script opening run)) × (replay.run ≡ run)
shown name_of script opening flags run c ended =
    let start = fresh name_of script opening in
    let lanes = lanes_of name_of script in
    let turns : turns_of name_of script opening c.flags ≡ c.turns =
    ap (λ (fs : List Outcome). turns_from name_of lanes fs start script.order) (sym (append-nil c.flags)) ∙ (c.takes [] ∙ append-nil c.turns) in
    let all : HaveEnded name_of lanes run (length lanes) = λ lane within. ended lane (let n = as_many (tasks_of name_of) script.lanes in omega (arith, n, within)) in
    let runs : run_of name_of script opening c.turns c.flags ≡ Some run =
    ap (λ (ts : List ℕ). run_from name_of lanes start ts c.flags) (sym (append-nil c.turns))
    ∙ (ap (λ (fs : List Outcome). run_from name_of lanes start (c.turns ++ []) fs) (sym (append-nil c.flags))
    ∙ (c.runs [] [] ∙ ends name_of lanes run all)) in
    let seen : map flag_shown run.events ≡ c.flags = flags c.turns c.flags run runs in
    let replay : IsReplay name_of script opening (transcript_of name_of script opening run) = record {
      run = run;
      runs = ap (λ (fs : List Outcome). run_of name_of script opening (turns_of name_of script opening fs) fs) seen
          ∙ (ap (λ (ts : List ℕ). run_of name_of script opening ts c.flags) turns ∙ runs);
      shows = refl;
    } in
    (replay, refl)
