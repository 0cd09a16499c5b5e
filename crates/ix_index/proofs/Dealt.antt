-- Steps dealt to parts: none is lost, and parts stay apart.
use Rattle.std.proofs.Common.{◌≡◌, ℕ, ◌+◌, Bool, true, false, List, [], ◌∷◌, ◌++◌, if◌then◌else◌, refl, sym, ap, subst, ◌∙◌, zero-add, arith}
use Rattle.std.specs.List.{AllByRecursion, fold, sum_by}
use Rattle.std.specs.declared.cmp.Ordering.{Ordering}
use Rattle.std.specs.Ordering.{is_lt}
use Rattle.std.proofs.lemmas.List.Sums.{sum_by-append, sum_by-cons}
use Rattle.ix_index.specs.declared.steps.Step.{Step}
use Rattle.ix_index.specs.Dealing.{Dealt, Here, Sides, steps_of, with_dealt, AreNone, AreApart}
use Rattle.ix_index.proofs.Sorted.{all_append_left, all_append_right, all_append}

module _ {K V : Type 0} (kcmp : K → K → Ordering) where
  -- ---- one step

  put_all : (P : Step K V → Type 0) (d : Dealt K V) (s : Step K V) → AllByRecursion P (steps_of d) → P s → AllByRecursion P (steps_of (with_dealt kcmp d s))
  put_all P (Here steps) s all here = all_append P steps (s ∷ []) all (here, tt)
  put_all P (Sides l k r) s all here =
      cases (put_all P l s (all_append_left P (steps_of l) (steps_of r) all) here) (put_all P r s (all_append_right P (steps_of l) (steps_of r) all) here) (is_lt (kcmp s.key k))
    where
      cases : AllByRecursion P (steps_of (with_dealt kcmp l s)) → AllByRecursion P (steps_of (with_dealt kcmp r s)) → (b : Bool)
          → AllByRecursion P (steps_of (if b then Sides (with_dealt kcmp l s) k r else Sides l k (with_dealt kcmp r s)))
      cases first second true = all_append P (steps_of (with_dealt kcmp l s)) (steps_of r) first (all_append_right P (steps_of l) (steps_of r) all)
      cases first second false = all_append P (steps_of l) (steps_of (with_dealt kcmp r s)) (all_append_left P (steps_of l) (steps_of r) all) second

  put_apart : (d : Dealt K V) (s : Step K V) → AreApart kcmp d → AreApart kcmp (with_dealt kcmp d s)
  put_apart (Here steps) s apart = tt
  put_apart (Sides l k r) s apart = cases (put_apart l s apart.2) (put_apart r s apart.3) (is_lt (kcmp s.key k)) refl
    where
      cases : AreApart kcmp (with_dealt kcmp l s) → AreApart kcmp (with_dealt kcmp r s) → (b : Bool) → is_lt (kcmp s.key k) ≡ b
          → AreApart kcmp (if b then Sides (with_dealt kcmp l s) k r else Sides l k (with_dealt kcmp r s))
      cases first second true is = (put_all (λ (t : Step K V). is_lt (kcmp t.key k) ≡ true) l s apart.0 is, apart.1, first, apart.3)
      cases first second false is = (apart.0, put_all (λ (t : Step K V). is_lt (kcmp t.key k) ≡ false) r s apart.1 is, apart.2, second)

  put_sum : (m : Step K V → ℕ) (d : Dealt K V) (s : Step K V) → sum_by m (steps_of (with_dealt kcmp d s)) ≡ sum_by m (steps_of d) + m s
  put_sum m (Here steps) s = sum_by-append m steps (s ∷ []) ∙ ap (λ n. sum_by m steps + n) (zero-add (m s))
  put_sum m (Sides l k r) s = cases (put_sum m l s) (put_sum m r s) (is_lt (kcmp s.key k))
    where
      cases : sum_by m (steps_of (with_dealt kcmp l s)) ≡ sum_by m (steps_of l) + m s → sum_by m (steps_of (with_dealt kcmp r s)) ≡ sum_by m (steps_of r) + m s → (b : Bool)
          → sum_by m (steps_of (if b then Sides (with_dealt kcmp l s) k r else Sides l k (with_dealt kcmp r s))) ≡ sum_by m (steps_of l ++ steps_of r) + m s
      cases first second true =
          let whole = sum_by-append m (steps_of (with_dealt kcmp l s)) (steps_of r) in
          let before = sum_by-append m (steps_of l) (steps_of r) in
          omega (arith, whole, before, first)
      cases first second false =
          let whole = sum_by-append m (steps_of l) (steps_of (with_dealt kcmp r s)) in
          let before = sum_by-append m (steps_of l) (steps_of r) in
          omega (arith, whole, before, second)

  -- ---- all steps

  puts_apart : (steps : List (Step K V)) (d : Dealt K V) → AreApart kcmp d → AreApart kcmp (fold (with_dealt kcmp) d steps)
  puts_apart [] d apart = apart
  puts_apart (s ∷ steps) d apart = puts_apart steps (with_dealt kcmp d s) (put_apart d s apart)

  puts_sum : (m : Step K V → ℕ) (steps : List (Step K V)) (d : Dealt K V) → sum_by m (steps_of (fold (with_dealt kcmp) d steps)) ≡ sum_by m (steps_of d) + sum_by m steps
  puts_sum m [] d = omega arith
  puts_sum m (s ∷ steps) d =
      let rest = puts_sum m steps (with_dealt kcmp d s) in
      let here = put_sum m d s in
      let split = sum_by-cons m s steps in
      omega (arith, rest, here, split)

  -- ---- from empty parts

  none_steps : (d : Dealt K V) → AreNone d → steps_of d ≡ []
  none_steps (Here steps) none = none
  none_steps (Sides l k r) none = ap (λ (xs : List (Step K V)). xs ++ steps_of r) (none_steps l none.0) ∙ none_steps r none.1

  none_apart : (d : Dealt K V) → AreNone d → AreApart kcmp d
  none_apart (Here steps) none = tt
  none_apart (Sides l k r) none = (
    subst (AllByRecursion (λ (t : Step K V). is_lt (kcmp t.key k) ≡ true)) (sym (none_steps l none.0)) tt,
    subst (AllByRecursion (λ (t : Step K V). is_lt (kcmp t.key k) ≡ false)) (sym (none_steps r none.1)) tt,
    none_apart l none.0,
    none_apart r none.1,
  )

  pub dealt_apart : (d : Dealt K V) (steps : List (Step K V)) (after : Dealt K V) → AreNone d → after ≡ fold (with_dealt kcmp) d steps → AreApart kcmp after
  dealt_apart d steps after none is = subst (AreApart kcmp) (sym is) (puts_apart steps d (none_apart d none))

  pub dealt_same : (d : Dealt K V) (steps : List (Step K V)) (after : Dealt K V) → AreNone d → after ≡ fold (with_dealt kcmp) d steps
      → (m : Step K V → ℕ) → sum_by m (steps_of after) ≡ sum_by m steps
  dealt_same d steps after none is m =
      ap (λ (e : Dealt K V). sum_by m (steps_of e)) is ∙ puts_sum m steps d ∙ ap (λ (xs : List (Step K V)). sum_by m xs + sum_by m steps) (none_steps d none) ∙ zero-add (sum_by m steps)
