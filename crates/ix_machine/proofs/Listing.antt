-- What opening lists: each file as it is judged, by rising names.
use Rattle.std.proofs.Common.{◌≡◌, ℕ, ◌↔◌, ◌⊎◌, inl, inr, List, [], ◌∷◌, map, Option, Some, None, option_map, Result, Ok, Err, refl, sym, ap, subst, ◌∙◌}
use Rattle.std.specs.declared.cmp.Ordering.TheVariants.{Less}
use Rattle.std.specs.List.{AllByRecursion, filter_map, cons_option}
use Rattle.std.specs.List.Sorted.{IsStrictlySortedBy}
use Rattle.std.specs.Map.{keys_of}
use Rattle.std.specs.Result.{result_ok}
use Rattle.ix_types.specs.Row.{text_cmp}
use Rattle.ix_model.specs.declared.publication.StoredUnit.{StoredUnit}
use Rattle.ix_machine.specs.declared.opened.Refused.{Refused}
use Rattle.ix_machine.specs.declared.opened.UnitFault.{UnitFault}
use Rattle.ix_machine.specs.Listed.{Lists}
use Rattle.ix_machine.specs.Opening.{judged, sound_at, refusal, opening}
use Rattle.ix_machine.specs.State.{Files}

-- ---- what filter_map keeps

module _ {X Y : Type 0} (f : X → Option Y) where
  -- what is kept comes from a value of the list
  abbrev ComesFrom : List X → Y → Type 0
  ComesFrom xs y = (x : X) × Lists xs x × (f x ≡ Some y)

  at_first : (x : X) (xs : List X) (y found : Y) → f x ≡ Some found → (Lists (filter_map f xs) y → ComesFrom xs y) → (found ≡ y) ⊎ Lists (filter_map f xs) y → ComesFrom (x ∷ xs) y
  at_first x xs y found is rest (inl same) = (x, inl refl, is ∙ ap Some same)
  at_first x xs y found is rest (inr h) = let r = rest h in (r.0, inr r.1, r.2)

  pub kept_from : (xs : List X) (y : Y) → Lists (filter_map f xs) y → ComesFrom xs y
  kept_from [] y h = absurd h
  kept_from (x ∷ xs) y h =
      (elim (f x) as (λ o. f x ≡ o → Lists (cons_option o (filter_map f xs)) y → ComesFrom (x ∷ xs) y) [
        | None ↦ λ is h. let r = kept_from xs y h in (r.0, inr r.1, r.2)
        | Some found ↦ λ is h. at_first x xs y found is (kept_from xs y) h
      ]) refl h

  behind : (o : Option Y) (ys : List Y) (y : Y) → Lists ys y → Lists (cons_option o ys) y
  behind None ys y h = h
  behind (Some z) ys y h = inr h

  pub kept_there : (xs : List X) (x : X) (y : Y) → f x ≡ Some y → Lists xs x → Lists (filter_map f xs) y
  kept_there [] x y is h = absurd h
  kept_there (z ∷ xs) x y is (inl same) = subst (λ (o : Option Y). Lists (cons_option o (filter_map f xs)) y) (sym (ap f same ∙ is)) (inl refl)
  kept_there (z ∷ xs) x y is (inr h) = behind (f z) (filter_map f xs) y (kept_there xs x y is h)

-- ---- the units and the refused

module _ (name_of : List ℕ → List ℕ) (records : Files) where
  abbrev judgement : List ℕ × List ℕ → Result StoredUnit UnitFault
  judgement file = judged name_of records file.0 file.1

  abbrev refused_at : List ℕ × List ℕ → Option Refused
  refused_at file = refusal file.0 (judgement file)

  sound_is : (file : List ℕ × List ℕ) (found : List ℕ × StoredUnit) (r : Result StoredUnit UnitFault) → judgement file ≡ r → option_map (λ unit. (file.0, unit)) (result_ok r) ≡ Some found
      → (file.0 ≡ found.0) × (judgement file ≡ Ok found.1)
  sound_is file found (Err fault) is e = absurd (cc)
  sound_is file found (Ok unit) is e =
      let entry : List ℕ × StoredUnit = (file.0, unit) in
      let same : entry ≡ found = cc in
      (ap (λ (p : List ℕ × StoredUnit). p.0) same, is ∙ ap (λ (p : List ℕ × StoredUnit). Ok p.1) same)

  refused_is : (file : List ℕ × List ℕ) (refused : Refused) (r : Result StoredUnit UnitFault) → judgement file ≡ r → refusal file.0 r ≡ Some refused
      → (file.0 ≡ refused.name) × (judgement file ≡ Err refused.cause)
  refused_is file refused (Ok unit) is e = absurd (cc)
  refused_is file refused (Err fault) is e =
      let entry : Refused = record { name = file.0; cause = fault } in
      let same : entry ≡ refused = cc in
      (ap (λ (p : Refused). p.name) same, is ∙ ap (λ (p : Refused). Err p.cause) same)

  module _ (units : Files) where
    pub units_listed : (found : List ℕ × StoredUnit) → Lists (opening name_of units records).units found ↔ ((bytes : List ℕ) × Lists units (found.0, bytes) × (judged name_of records found.0 bytes ≡ Ok found.1))
    units_listed found = (
      λ h.
          let k = kept_from (sound_at name_of records) units found h in
          let m = sound_is k.0 found (judgement k.0) refl k.2 in
          (k.0.1, subst (λ (n : List ℕ). Lists units (n, k.0.1)) m.0 k.1, ap (λ (n : List ℕ). judged name_of records n k.0.1) (sym m.0) ∙ m.1),
      λ h. kept_there (sound_at name_of records) units (found.0, h.0) found (ap (λ (r : Result StoredUnit UnitFault). option_map (λ (unit : StoredUnit). (found.0, unit)) (result_ok r)) h.2) h.1,
    )

    pub refused_listed : (refused : Refused) → Lists (opening name_of units records).refused refused ↔ ((bytes : List ℕ) × Lists units (refused.name, bytes) × (judged name_of records refused.name bytes ≡ Err refused.cause))
    refused_listed refused = (
      λ h.
          let k = kept_from refused_at units refused h in
          let m = refused_is k.0 refused (judgement k.0) refl k.2 in
          (k.0.1, subst (λ (n : List ℕ). Lists units (n, k.0.1)) m.0 k.1, ap (λ (n : List ℕ). judged name_of records n k.0.1) (sym m.0) ∙ m.1),
      λ h. kept_there refused_at units (refused.name, h.0) refused (ap (refusal refused.name) h.2) h.1,
    )

  -- ---- the names of the refused rise

  abbrev names : List Refused → List (List ℕ)
  names = map (λ (refused : Refused). refused.name)

  refused_names : (P : List ℕ → Type 0) (units : Files) → AllByRecursion P (keys_of units) → AllByRecursion P (names (filter_map refused_at units))
  refused_names P [] all = tt
  refused_names P (file ∷ units) all =
      elim (judgement file) as (λ r. AllByRecursion P (names (cons_option (refusal file.0 r) (filter_map refused_at units)))) [
        | Ok found ↦ refused_names P units all.1
        | Err fault ↦ (all.0, refused_names P units all.1)
      ]

  pub refused_rise : (units : Files) → IsStrictlySortedBy text_cmp (keys_of units) → IsStrictlySortedBy text_cmp (names (opening name_of units records).refused)
  unfolding IsStrictlySortedBy
  refused_rise [] rising = rising
  refused_rise (file ∷ units) rising =
      elim (judgement file) as (λ r. IsStrictlySortedBy text_cmp (names (cons_option (refusal file.0 r) (filter_map refused_at units)))) [
        | Ok found ↦ refused_rise units rising.1
        | Err fault ↦ (refused_names (λ z. text_cmp file.0 z ≡ Less) units rising.0, refused_rise units rising.1)
      ]
