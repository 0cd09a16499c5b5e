-- A run of lanes is a run of the machine.
use Rattle.std.proofs.Common.{◌≡◌, ℕ, zero, suc, ◌+◌, ◌<◌, ◌≤◌, ◌||◌, if◌then◌else◌, Bool, true, false, List, [], ◌∷◌, length, map, Option, Some, None, is_some, option_and_then, refl, sym, ap, ◌∙◌, subst, arith}
use Rattle.std.specs.List.{list_any, range_with_len}
use Rattle.ix_types.specs.Name.{IsFileName}
use Rattle.ix_machine.specs.declared.event.Outcome.{Outcome}
use Rattle.ix_machine.specs.Given.{Given}
use Rattle.ix_machine.specs.Run.{MayCall, Opening, Turn, Leads}
use Rattle.ix_machine.specs.State.{State}
use Rattle.ix_plan.specs.declared.plan.Script.{Script}
use Rattle.ix_plan.specs.Keeps.{IsAccepted}
use Rattle.ix_lanes.specs.Tasks.{Task}
use Rattle.ix_replays.specs.Run.{Run, extended, fresh, has_call, lanes_of, next_of, run_from}
use Rattle.ix_allowed.specs.Agree.{AreTasksOf, LanesAgree}
use Rattle.ix_allowed.specs.Laws.{Comes}
use Rattle.ix_allowed.proofs.Runs.{added, called}

-- the machine takes one call after the other, of these lanes and with these flags, and comes from the one run's state to the other's
pub record IsLed (name_of : List ℕ → List ℕ) (run end : Run) (order : List ℕ) (flags : List Outcome) : Type 0 where
  pub turns : List Turn
  pub leads : Leads name_of run.state turns end.state
  pub lanes : map (λ (turn : Turn). turn.lane) turns ≡ order
  pub flags_are : map (λ (turn : Turn). turn.flag) turns ≡ flags

module _ (name_of : List ℕ → List ℕ) (poller : ℕ) (lanes : List (List Task))
    (kept : (run longer : Run) (lane : ℕ) (flag : Outcome) → LanesAgree poller lanes run → extended name_of lanes run lane flag ≡ Some longer → LanesAgree poller lanes longer) where
  pub agrees_on : (order : List ℕ) (flags : List Outcome) (run end : Run) → LanesAgree poller lanes run → Comes name_of lanes run order flags end → LanesAgree poller lanes end
  agrees_on [] [] run end agrees comes = subst (LanesAgree poller lanes) comes agrees
  agrees_on [] (flag ∷ flags) run end agrees comes = absurd comes
  agrees_on (lane ∷ order) [] run end agrees comes = absurd comes
  agrees_on (lane ∷ order) (flag ∷ flags) run end agrees comes = agrees_on order flags comes.0 end (kept run comes.0 lane flag agrees comes.1) comes.2

  module _ (may : (run : Run) (lane : ℕ) (given : Given) → LanesAgree poller lanes run → next_of name_of lanes run lane ≡ Some given → MayCall name_of run.state lane given) where
    pub is_led : (order : List ℕ) (flags : List Outcome) (run end : Run) → LanesAgree poller lanes run → Comes name_of lanes run order flags end → IsLed name_of run end order flags
    is_led [] [] run end agrees comes = record { turns = []; leads = ap (λ (r : Run). r.state) comes; lanes = refl; flags_are = refl }
    is_led [] (flag ∷ flags) run end agrees comes = absurd comes
    is_led (lane ∷ order) [] run end agrees comes = absurd comes
    is_led (lane ∷ order) (flag ∷ flags) run end agrees comes =
        let a = added name_of lanes run lane flag comes.0 comes.1 in
        let rest = is_led order flags comes.0 end (kept run comes.0 lane flag agrees comes.1) comes.2 in
        record {
          turns = (record { lane = lane; given = a.given; flag = flag }) ∷ rest.turns;
          leads = (
            a.stepped,
            record { may = may run lane a.given agrees (called a); taken = a.taken },
            subst (λ (s : State). Leads name_of s rest.turns end.state) (sym (ap (λ (r : Run). r.state) a.is)) rest.leads,
          );
          lanes = ap (λ (ls : List ℕ). lane ∷ ls) rest.lanes;
          flags_are = ap (λ (fs : List Outcome). flag ∷ fs) rest.flags_are;
        }

-- ---- a whole run

module _ (name_of : List ℕ → List ℕ) (lanes : List (List Task)) where
  at_end : (run end : Run) → (if list_any (has_call name_of lanes run) (range_with_len 0 (length lanes)) then None else Some run) ≡ Some end → run ≡ end
  at_end run end e =
      (elim (list_any (has_call name_of lanes run) (range_with_len 0 (length lanes))) as (λ b. (if b then None else Some run) ≡ Some end → run ≡ end) [
        | true ↦ λ p. absurd (cc)
        | false ↦ λ p. same p
      ]) e
    where
      same : Some run ≡ Some end → run ≡ end
      same p = cc

  pub run_comes : (order : List ℕ) (flags : List Outcome) (run end : Run) → run_from name_of lanes run order flags ≡ Some end → Comes name_of lanes run order flags end
  run_comes [] [] run end e = at_end run end e
  run_comes [] (flag ∷ flags) run end e = absurd (cc)
  run_comes (lane ∷ order) [] run end e = absurd (cc)
  run_comes (lane ∷ order) (flag ∷ flags) run end e = first (extended name_of lanes run lane flag) refl e (λ longer f. run_comes order flags longer end f)
    where
      first : (o : Option Run) → extended name_of lanes run lane flag ≡ o → option_and_then (λ longer. run_from name_of lanes longer order flags) o ≡ Some end
          → ((longer : Run) → run_from name_of lanes longer order flags ≡ Some end → Comes name_of lanes longer order flags end)
          → (longer : Run) × (extended name_of lanes run lane flag ≡ Some longer) × Comes name_of lanes longer order flags end
      first None is f rest = absurd (cc)
      first (Some longer) is f rest = (longer, is, rest longer f)

  -- ---- a run that has no call left

  none_in : (p : ℕ → Bool) (low many : ℕ) → ((lane : ℕ) → low ≤ lane → lane < low + many → p lane ≡ false) → list_any p (range_with_len low many) ≡ false
  none_in p low zero f = refl
  none_in p low (suc many) f =
      let first = f low (omega arith) (omega arith) in
      let rest = none_in p (low + 1) many (λ lane above below. f lane (omega (arith, above)) (omega (arith, below))) in
      ap (λ (b : Bool). b || list_any p (range_with_len (low + 1) many)) first ∙ rest

  whole_at : (run end : Run) → run ≡ end → ((lane : ℕ) → lane < length lanes → next_of name_of lanes end lane ≡ None)
      → (if list_any (has_call name_of lanes run) (range_with_len 0 (length lanes)) then None else Some run) ≡ Some end
  whole_at run end is none =
      let all = none_in (has_call name_of lanes end) 0 (length lanes) (λ lane above below. ap (λ (o : Option Given). is_some o) (none lane (omega (arith, below)))) in
      subst (λ (r : Run). (if list_any (has_call name_of lanes r) (range_with_len 0 (length lanes)) then None else Some r) ≡ Some end) (sym is)
      (subst (λ (b : Bool). (if b then None else Some end) ≡ Some end) (sym all) refl)

  pub whole_run : (order : List ℕ) (flags : List Outcome) (run end : Run) → Comes name_of lanes run order flags end → ((lane : ℕ) → lane < length lanes → next_of name_of lanes end lane ≡ None)
      → run_from name_of lanes run order flags ≡ Some end
  whole_run [] [] run end comes none = whole_at run end comes none
  whole_run [] (flag ∷ flags) run end comes none = absurd comes
  whole_run (lane ∷ order) [] run end comes none = absurd comes
  whole_run (lane ∷ order) (flag ∷ flags) run end comes none =
      ap (λ (o : Option Run). option_and_then (λ longer. run_from name_of lanes longer order flags) o) comes.1 ∙ whole_run order flags comes.0 end comes.2 none

-- ---- a run of an accepted script

module _ (ready : (name_of : List ℕ → List ℕ) (script : Script) → ((bytes : List ℕ) → IsFileName (name_of bytes)) → IsAccepted script → (poller : ℕ) × AreTasksOf name_of poller (lanes_of name_of script))
    (begins : (name_of : List ℕ → List ℕ) (poller : ℕ) (script : Script) (opening : Opening) → LanesAgree poller (lanes_of name_of script) (fresh name_of script opening))
    (kept : (name_of : List ℕ → List ℕ) (poller : ℕ) (lanes : List (List Task)) (run longer : Run) (lane : ℕ) (flag : Outcome) → AreTasksOf name_of poller lanes
    → LanesAgree poller lanes run → extended name_of lanes run lane flag ≡ Some longer → LanesAgree poller lanes longer)
    (may : (name_of : List ℕ → List ℕ) (poller : ℕ) (lanes : List (List Task)) (run : Run) (lane : ℕ) (given : Given) → AreTasksOf name_of poller lanes
    → LanesAgree poller lanes run → next_of name_of lanes run lane ≡ Some given → MayCall name_of run.state lane given)
    (name_of : List ℕ → List ℕ) (script : Script) (opening : Opening) (order : List ℕ) (flags : List Outcome) (run : Run)
    (comes : Comes name_of (lanes_of name_of script) (fresh name_of script opening) order flags run) where
  pub script_agrees : (poller : ℕ) → AreTasksOf name_of poller (lanes_of name_of script) → LanesAgree poller (lanes_of name_of script) run
  script_agrees poller tasks =
      agrees_on name_of poller (lanes_of name_of script) (λ now longer lane flag agrees e. kept name_of poller (lanes_of name_of script) now longer lane flag tasks agrees e) order flags
      (fresh name_of script opening) run (begins name_of poller script opening) comes

  module _ (naming : (bytes : List ℕ) → IsFileName (name_of bytes)) (accepted : IsAccepted script) where
    pub script_may : (lane : ℕ) (given : Given) → next_of name_of (lanes_of name_of script) run lane ≡ Some given → MayCall name_of run.state lane given
    script_may lane given e =
        let r = ready name_of script naming accepted in
        may name_of r.0 (lanes_of name_of script) run lane given r.1 (script_agrees r.0 r.1) e

    pub script_led : IsLed name_of (fresh name_of script opening) run order flags
    script_led =
        let r = ready name_of script naming accepted in
        is_led name_of r.0 (lanes_of name_of script) (λ now longer lane flag agrees e. kept name_of r.0 (lanes_of name_of script) now longer lane flag r.1 agrees e)
        (λ now lane given agrees e. may name_of r.0 (lanes_of name_of script) now lane given r.1 agrees e) order flags (fresh name_of script opening) run (begins name_of r.0 script opening) comes
