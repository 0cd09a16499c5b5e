-- What gathered steps count, and what is left when those that change nothing are left out.
use Rattle.std.proofs.Common.{◌≡◌, ℕ, ◌+◌, ◌-◌, ◌==◌, ◌&&◌, Bool, true, false, not, List, [], ◌∷◌, ◌++◌, filter, if◌then◌else◌, refl, sym, ap, ◌∙◌, zero-add, arith}
use Rattle.std.specs.List.Sorted.{IsPermutation}
use Rattle.std.specs.declared.cmp.Ordering.{Ordering}
use Rattle.std.specs.Ordering.{is_eq}
use Rattle.std.specs.Cmp.{IsTotalOrder}
use Rattle.std.proofs.lemmas.Bool.{eqb-true}
use Rattle.std.proofs.lemmas.Cmp.{alike_right}
use Rattle.std.proofs.lemmas.List.Sums.{sum_by-cons}
use Rattle.std.proofs.lemmas.List.Sorted.{sum_by-IsPermutation}
use Rattle.ix_index.specs.declared.revisions.Recount.{Recount}
use Rattle.ix_index.specs.declared.revisions.Revision.{Revision}
use Rattle.ix_index.specs.declared.steps.Step.{Step}
use Rattle.ix_index.specs.Recounting.{gained_by, lost_by, gained_in, lost_in}
use Rattle.ix_index.specs.Stepping.{is_of, gains_of, losses_of}
use Rattle.ix_index.specs.Gathering.{once, once_more, is_change, with_turn, first_of, if_some, all_settled, with_step, gathered}
use Rattle.ix_index.proofs.Sorted.{from_eq}

-- ---- one step more

-- a value's share of a step
abbrev pub gain : Bool → ℕ
gain gains = if gains then 1 else 0

abbrev pub loss : Bool → ℕ
loss gains = if gains then 0 else 1

module _ {V : Type 0} {cmp : V → V → Ordering} (o : IsTotalOrder cmp) where
  same_test : (q v w : V) → is_eq (cmp v w) ≡ true → is_eq (cmp q v) ≡ is_eq (cmp q w)
  same_test q v w tied = ap is_eq (alike_right o v w q (from_eq (cmp v w) tied))

  turn_gained : (rs : List (Recount V)) (v : V) (g : Bool) (q : V) → gained_by cmp (with_turn cmp rs v g) q ≡ gained_by cmp rs q + (if is_eq (cmp q v) then gain g else 0)
  turn_gained [] v g q = omega arith
  turn_gained (r ∷ []) v g q = cases (is_eq (cmp v r.value)) refl
    where
      tied : is_eq (cmp v r.value) ≡ true → (b : Bool) → is_eq (cmp q v) ≡ b
          → (if is_eq (cmp q r.value) then r.gained + gain g else 0) + 0 ≡ ((if is_eq (cmp q r.value) then r.gained else 0) + 0) + (if b then gain g else 0)
      tied same true is = rw (sym (same_test q v r.value same) ∙ is) (omega arith)
      tied same false is = rw (sym (same_test q v r.value same) ∙ is) (omega arith)

      cases : (b : Bool) → is_eq (cmp v r.value) ≡ b
          → gained_by cmp (if b then once_more r g ∷ [] else r ∷ once v g ∷ []) q ≡ gained_by cmp (r ∷ []) q + (if is_eq (cmp q v) then gain g else 0)
      cases true same = tied same (is_eq (cmp q v)) refl
      cases false other = omega arith
  turn_gained (r ∷ s ∷ rs) v g q = let rest = turn_gained (s ∷ rs) v g q in omega (arith, rest)

  turn_lost : (rs : List (Recount V)) (v : V) (g : Bool) (q : V) → lost_by cmp (with_turn cmp rs v g) q ≡ lost_by cmp rs q + (if is_eq (cmp q v) then loss g else 0)
  turn_lost [] v g q = omega arith
  turn_lost (r ∷ []) v g q = cases (is_eq (cmp v r.value)) refl
    where
      tied : is_eq (cmp v r.value) ≡ true → (b : Bool) → is_eq (cmp q v) ≡ b
          → (if is_eq (cmp q r.value) then r.lost + loss g else 0) + 0 ≡ ((if is_eq (cmp q r.value) then r.lost else 0) + 0) + (if b then loss g else 0)
      tied same true is = rw (sym (same_test q v r.value same) ∙ is) (omega arith)
      tied same false is = rw (sym (same_test q v r.value same) ∙ is) (omega arith)

      cases : (b : Bool) → is_eq (cmp v r.value) ≡ b
          → lost_by cmp (if b then once_more r g ∷ [] else r ∷ once v g ∷ []) q ≡ lost_by cmp (r ∷ []) q + (if is_eq (cmp q v) then loss g else 0)
      cases true same = tied same (is_eq (cmp q v)) refl
      cases false other = omega arith
  turn_lost (r ∷ s ∷ rs) v g q = let rest = turn_lost (s ∷ rs) v g q in omega (arith, rest)

module _ {K V : Type 0} {kcmp : K → K → Ordering} {vcmp : V → V → Ordering} (ok : IsTotalOrder kcmp) (ov : IsTotalOrder vcmp) where
  -- what a step counts for a pair
  abbrev pub counts_for : K → V → Step K V → ℕ → ℕ
  counts_for key value step n = if is_eq (kcmp key step.key) then (if is_eq (vcmp value step.value) then n else 0) else 0

  step_gained : (rs : List (Revision K V)) (s : Step K V) (key : K) (value : V) → gained_in kcmp vcmp (with_step kcmp vcmp rs s) key value ≡ gained_in kcmp vcmp rs key value + counts_for key value s (gain s.gains)
  step_gained [] s key value = first (is_eq (kcmp key s.key))
    where
      first : (b : Bool) → (if b then (if is_eq (vcmp value s.value) then gain s.gains else 0) + 0 else 0) + 0 ≡ 0 + (if b then (if is_eq (vcmp value s.value) then gain s.gains else 0) else 0)
      first true = omega arith
      first false = omega arith
  step_gained (r ∷ []) s key value = cases (is_eq (kcmp s.key r.key)) refl
    where
      tied : is_eq (kcmp s.key r.key) ≡ true → (b : Bool) → is_eq (kcmp key s.key) ≡ b
          → (if is_eq (kcmp key r.key) then gained_by vcmp (with_turn vcmp r.recounts s.value s.gains) value else 0) + 0
          ≡ ((if is_eq (kcmp key r.key) then gained_by vcmp r.recounts value else 0) + 0) + (if b then (if is_eq (vcmp value s.value) then gain s.gains else 0) else 0)
      tied same true is = let turned = turn_gained ov r.recounts s.value s.gains value in rw (sym (same_test ok key s.key r.key same) ∙ is) (omega (arith, turned))
      tied same false is = rw (sym (same_test ok key s.key r.key same) ∙ is) (omega arith)

      apart : (b : Bool) → (if is_eq (kcmp key r.key) then gained_by vcmp r.recounts value else 0) + ((if b then (if is_eq (vcmp value s.value) then gain s.gains else 0) + 0 else 0) + 0)
          ≡ ((if is_eq (kcmp key r.key) then gained_by vcmp r.recounts value else 0) + 0) + (if b then (if is_eq (vcmp value s.value) then gain s.gains else 0) else 0)
      apart true = omega arith
      apart false = omega arith

      cases : (b : Bool) → is_eq (kcmp s.key r.key) ≡ b
          → gained_in kcmp vcmp (if b then record r { recounts = with_turn vcmp r.recounts s.value s.gains } ∷ [] else r ∷ first_of s ∷ []) key value
          ≡ gained_in kcmp vcmp (r ∷ []) key value + counts_for key value s (gain s.gains)
      cases true same = tied same (is_eq (kcmp key s.key)) refl
      cases false other = apart (is_eq (kcmp key s.key))
  step_gained (r ∷ t ∷ rs) s key value = let rest = step_gained (t ∷ rs) s key value in omega (arith, rest)

  step_lost : (rs : List (Revision K V)) (s : Step K V) (key : K) (value : V) → lost_in kcmp vcmp (with_step kcmp vcmp rs s) key value ≡ lost_in kcmp vcmp rs key value + counts_for key value s (loss s.gains)
  step_lost [] s key value = first (is_eq (kcmp key s.key))
    where
      first : (b : Bool) → (if b then (if is_eq (vcmp value s.value) then loss s.gains else 0) + 0 else 0) + 0 ≡ 0 + (if b then (if is_eq (vcmp value s.value) then loss s.gains else 0) else 0)
      first true = omega arith
      first false = omega arith
  step_lost (r ∷ []) s key value = cases (is_eq (kcmp s.key r.key)) refl
    where
      tied : is_eq (kcmp s.key r.key) ≡ true → (b : Bool) → is_eq (kcmp key s.key) ≡ b
          → (if is_eq (kcmp key r.key) then lost_by vcmp (with_turn vcmp r.recounts s.value s.gains) value else 0) + 0
          ≡ ((if is_eq (kcmp key r.key) then lost_by vcmp r.recounts value else 0) + 0) + (if b then (if is_eq (vcmp value s.value) then loss s.gains else 0) else 0)
      tied same true is = let turned = turn_lost ov r.recounts s.value s.gains value in rw (sym (same_test ok key s.key r.key same) ∙ is) (omega (arith, turned))
      tied same false is = rw (sym (same_test ok key s.key r.key same) ∙ is) (omega arith)

      apart : (b : Bool) → (if is_eq (kcmp key r.key) then lost_by vcmp r.recounts value else 0) + ((if b then (if is_eq (vcmp value s.value) then loss s.gains else 0) + 0 else 0) + 0)
          ≡ ((if is_eq (kcmp key r.key) then lost_by vcmp r.recounts value else 0) + 0) + (if b then (if is_eq (vcmp value s.value) then loss s.gains else 0) else 0)
      apart true = omega arith
      apart false = omega arith

      cases : (b : Bool) → is_eq (kcmp s.key r.key) ≡ b
          → lost_in kcmp vcmp (if b then record r { recounts = with_turn vcmp r.recounts s.value s.gains } ∷ [] else r ∷ first_of s ∷ []) key value
          ≡ lost_in kcmp vcmp (r ∷ []) key value + counts_for key value s (loss s.gains)
      cases true same = tied same (is_eq (kcmp key s.key)) refl
      cases false other = apart (is_eq (kcmp key s.key))
  step_lost (r ∷ t ∷ rs) s key value = let rest = step_lost (t ∷ rs) s key value in omega (arith, rest)

  as_gain : (key : K) (value : V) (s : Step K V) → ◌≡◌ {A = ℕ} (if is_of kcmp vcmp key value s && s.gains then 1 else 0) (counts_for key value s (gain s.gains))
  as_gain key value s = cases (is_eq (kcmp key s.key)) (is_eq (vcmp value s.value)) s.gains
    where
      cases : (a b g : Bool) → ◌≡◌ {A = ℕ} (if (a && b) && g then 1 else 0) (if a then (if b then (if g then 1 else 0) else 0) else 0)
      cases true true true = refl
      cases true true false = refl
      cases true false g = refl
      cases false b g = refl

  as_loss : (key : K) (value : V) (s : Step K V) → ◌≡◌ {A = ℕ} (if is_of kcmp vcmp key value s && not s.gains then 1 else 0) (counts_for key value s (loss s.gains))
  as_loss key value s = cases (is_eq (kcmp key s.key)) (is_eq (vcmp value s.value)) s.gains
    where
      cases : (a b g : Bool) → ◌≡◌ {A = ℕ} (if (a && b) && not g then 1 else 0) (if a then (if b then (if g then 0 else 1) else 0) else 0)
      cases true true true = refl
      cases true true false = refl
      cases true false g = refl
      cases false b g = refl

  pub gathered_gained : (rs : List (Revision K V)) (steps : List (Step K V)) (key : K) (value : V)
      → gained_in kcmp vcmp (gathered kcmp vcmp rs steps) key value ≡ gained_in kcmp vcmp rs key value + gains_of kcmp vcmp steps key value
  gathered_gained rs [] key value = omega arith
  gathered_gained rs (s ∷ steps) key value =
      let rest = gathered_gained (with_step kcmp vcmp rs s) steps key value in
      let here = step_gained rs s key value in
      let split = sum_by-cons (λ (step : Step K V). if is_of kcmp vcmp key value step && step.gains then 1 else 0) s steps in
      let is = as_gain key value s in
      omega (arith, rest, here, split, is)

  pub gathered_lost : (rs : List (Revision K V)) (steps : List (Step K V)) (key : K) (value : V)
      → lost_in kcmp vcmp (gathered kcmp vcmp rs steps) key value ≡ lost_in kcmp vcmp rs key value + losses_of kcmp vcmp steps key value
  gathered_lost rs [] key value = omega arith
  gathered_lost rs (s ∷ steps) key value =
      let rest = gathered_lost (with_step kcmp vcmp rs s) steps key value in
      let here = step_lost rs s key value in
      let split = sum_by-cons (λ (step : Step K V). if is_of kcmp vcmp key value step && not step.gains then 1 else 0) s steps in
      let is = as_loss key value s in
      omega (arith, rest, here, split, is)

-- ---- what is left out changes nothing

module _ {V : Type 0} (cmp : V → V → Ordering) where
  same_numbers : (r : Recount V) → is_change r ≡ false → r.gained ≡ r.lost
  same_numbers r none = cases (r.gained == r.lost) refl none
    where
      cases : (b : Bool) → (r.gained == r.lost) ≡ b → not b ≡ false → r.gained ≡ r.lost
      cases true same none = eqb-true r.gained r.lost same
      cases false other none = absurd (cc)

  changing_nets : (rs : List (Recount V)) (q : V) (n : ℕ) → n + gained_by cmp (filter is_change rs) q - lost_by cmp (filter is_change rs) q ≡ n + gained_by cmp rs q - lost_by cmp rs q
  changing_nets [] q n = refl
  changing_nets (r ∷ rs) q n = cases (λ m. changing_nets rs q m) (is_eq (cmp q r.value)) refl (is_change r) refl
    where
      cases : ((m : ℕ) → m + gained_by cmp (filter is_change rs) q - lost_by cmp (filter is_change rs) q ≡ m + gained_by cmp rs q - lost_by cmp rs q)
          → (b : Bool) → is_eq (cmp q r.value) ≡ b → (c : Bool) → is_change r ≡ c
          → n + gained_by cmp (if c then r ∷ filter is_change rs else filter is_change rs) q - lost_by cmp (if c then r ∷ filter is_change rs else filter is_change rs) q
          ≡ n + ((if is_eq (cmp q r.value) then r.gained else 0) + gained_by cmp rs q) - ((if is_eq (cmp q r.value) then r.lost else 0) + lost_by cmp rs q)
      cases rest true here true is = let at = rest (n + r.gained) in rw here (omega (arith, at))
      cases rest true here false is = let at = rest n in let same = same_numbers r is in rw here (omega (arith, at, same))
      cases rest false other true is = let at = rest n in rw other (omega (arith, at))
      cases rest false other false is = let at = rest n in rw other (omega (arith, at))

module _ {K V : Type 0} (kcmp : K → K → Ordering) (vcmp : V → V → Ordering) where
  some_gained : (k : K) (f : List (Recount V)) (rest : List (Revision K V)) (key : K) (value : V)
      → gained_in kcmp vcmp (if_some k f ++ rest) key value ≡ (if is_eq (kcmp key k) then gained_by vcmp f value else 0) + gained_in kcmp vcmp rest key value
  some_gained k [] rest key value = cases (is_eq (kcmp key k))
    where
      cases : (b : Bool) → gained_in kcmp vcmp rest key value ≡ (if b then 0 else 0) + gained_in kcmp vcmp rest key value
      cases true = omega arith
      cases false = omega arith
  some_gained k (r ∷ f) rest key value = refl

  some_lost : (k : K) (f : List (Recount V)) (rest : List (Revision K V)) (key : K) (value : V)
      → lost_in kcmp vcmp (if_some k f ++ rest) key value ≡ (if is_eq (kcmp key k) then lost_by vcmp f value else 0) + lost_in kcmp vcmp rest key value
  some_lost k [] rest key value = cases (is_eq (kcmp key k))
    where
      cases : (b : Bool) → lost_in kcmp vcmp rest key value ≡ (if b then 0 else 0) + lost_in kcmp vcmp rest key value
      cases true = omega arith
      cases false = omega arith
  some_lost k (r ∷ f) rest key value = refl

  both_net : (n g1 g2 l1 l2 h1 h2 m1 m2 : ℕ) → ((n + g2) + g1 - l1 ≡ (n + g2) + h1 - m1) → ((n + h1) + g2 - l2 ≡ (n + h1) + h2 - m2) → n + (g1 + g2) - (l1 + l2) ≡ n + (h1 + h2) - (m1 + m2)
  both_net n g1 g2 l1 l2 h1 h2 m1 m2 p q = omega arith

  pub settled_nets : (rs : List (Revision K V)) (key : K) (value : V) (n : ℕ)
      → n + gained_in kcmp vcmp (all_settled rs) key value - lost_in kcmp vcmp (all_settled rs) key value ≡ n + gained_in kcmp vcmp rs key value - lost_in kcmp vcmp rs key value
  settled_nets [] key value n = refl
  settled_nets (r ∷ rs) key value n =
      ap (λ g. n + g - lost_in kcmp vcmp (all_settled (r ∷ rs)) key value) (some_gained r.key (filter is_change r.recounts) (all_settled rs) key value)
      ∙ ap (λ l. n + ((if is_eq (kcmp key r.key) then gained_by vcmp (filter is_change r.recounts) value else 0) + gained_in kcmp vcmp (all_settled rs) key value) - l)
      (some_lost r.key (filter is_change r.recounts) (all_settled rs) key value)
      ∙ cases (λ m. settled_nets rs key value m) (is_eq (kcmp key r.key))
    where
      cases : ((m : ℕ) → m + gained_in kcmp vcmp (all_settled rs) key value - lost_in kcmp vcmp (all_settled rs) key value ≡ m + gained_in kcmp vcmp rs key value - lost_in kcmp vcmp rs key value)
          → (b : Bool)
          → n + ((if b then gained_by vcmp (filter is_change r.recounts) value else 0) + gained_in kcmp vcmp (all_settled rs) key value)
          - ((if b then lost_by vcmp (filter is_change r.recounts) value else 0) + lost_in kcmp vcmp (all_settled rs) key value)
          ≡ n + ((if b then gained_by vcmp r.recounts value else 0) + gained_in kcmp vcmp rs key value) - ((if b then lost_by vcmp r.recounts value else 0) + lost_in kcmp vcmp rs key value)
      cases rest true = both_net n (gained_by vcmp (filter is_change r.recounts) value) (gained_in kcmp vcmp (all_settled rs) key value)
          (lost_by vcmp (filter is_change r.recounts) value) (lost_in kcmp vcmp (all_settled rs) key value)
          (gained_by vcmp r.recounts value) (gained_in kcmp vcmp rs key value) (lost_by vcmp r.recounts value) (lost_in kcmp vcmp rs key value)
          (changing_nets vcmp r.recounts value (n + gained_in kcmp vcmp (all_settled rs) key value))
          (rest (n + gained_by vcmp r.recounts value))
      cases rest false = both_net n 0 (gained_in kcmp vcmp (all_settled rs) key value) 0 (lost_in kcmp vcmp (all_settled rs) key value)
          0 (gained_in kcmp vcmp rs key value) 0 (lost_in kcmp vcmp rs key value)
          refl (rest (n + 0))

module _ {K V : Type 0} {kcmp : K → K → Ordering} {vcmp : V → V → Ordering} (ok : IsTotalOrder kcmp) (ov : IsTotalOrder vcmp) where
  -- from steps in any order to what is left of the gathered ones
  pub steps_net : (steps sorted : List (Step K V)) (rs : List (Revision K V)) → IsPermutation steps sorted → rs ≡ all_settled (gathered kcmp vcmp [] sorted)
      → (n : ℕ) (key : K) (value : V) → n + gained_in kcmp vcmp rs key value - lost_in kcmp vcmp rs key value ≡ n + gains_of kcmp vcmp steps key value - losses_of kcmp vcmp steps key value
  steps_net steps sorted rs moved is n key value =
      let left = ap (λ (xs : List (Revision K V)). n + gained_in kcmp vcmp xs key value - lost_in kcmp vcmp xs key value) is in
      let net = settled_nets kcmp vcmp (gathered kcmp vcmp [] sorted) key value n in
      let gains = gathered_gained ok ov [] sorted key value in
      let losses = gathered_lost ok ov [] sorted key value in
      let same_gains = sum_by-IsPermutation (λ (step : Step K V). if is_of kcmp vcmp key value step && step.gains then 1 else 0) steps sorted moved in
      let same_losses = sum_by-IsPermutation (λ (step : Step K V). if is_of kcmp vcmp key value step && not step.gains then 1 else 0) steps sorted moved in
      left ∙ net ∙ ap (λ g. n + g - lost_in kcmp vcmp (gathered kcmp vcmp [] sorted) key value) (gains ∙ zero-add _ ∙ same_gains)
      ∙ ap (λ l. n + gains_of kcmp vcmp steps key value - l) (losses ∙ zero-add _ ∙ same_losses)
