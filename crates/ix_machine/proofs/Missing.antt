-- A record that is needed stands whole.
use Rattle.std.proofs.Common.{◌≡◌, ℕ, zero, suc, Bool, true, false, ◌||◌, ◌⊎◌, inl, inr, List, [], ◌∷◌, get_or, Option, Some, None, IfSome, refl, subst}
use Rattle.std.specs.List.{list_any}
use Rattle.std.specs.Str.{bytes_eq}
use Rattle.ix_record.specs.declared.value.RecordValue.{RecordValue}
use Rattle.ix_unit.specs.declared.value.RecordDep.{RecordDep}
use Rattle.ix_model.specs.Units.{Units, units_at}
use Rattle.ix_machine.specs.Needs.{option_any, units_need, visible, seen_at, is_needed}
use Rattle.ix_machine.specs.Sound.{StandsWhole, ValuesStand, RecordsStand, NeededStand}
use Rattle.ix_machine.specs.State.{Files, Import, State}
use Rattle.ix_machine.proofs.Lists.{same_bytes}

one_of : (a b : Bool) → (a || b) ≡ true → (a ≡ true) ⊎ (b ≡ true)
one_of true b e = inl refl
one_of false b e = inr e

module _ (name_of : List ℕ → List ℕ) (records : Files) (name : List ℕ) where
  value_stands : (deps : List RecordDep) (values : List RecordValue) → list_any (λ dep. bytes_eq dep.name name) deps ≡ true → ValuesStand name_of records deps values → StandsWhole name_of records name
  value_stands [] values e h = absurd (cc)
  value_stands (dep ∷ deps) [] e h = absurd h
  value_stands (dep ∷ deps) (value ∷ values) e h =
      elim (one_of (bytes_eq dep.name name) (list_any (λ dep. bytes_eq dep.name name) deps) e) [
        | inl e ↦ subst (StandsWhole name_of records) (same_bytes dep.name name e) (value, h.0)
        | inr e ↦ value_stands deps values e h.1
      ]

  record_stands : (units : Units) → RecordsStand name_of records units → units_need name units ≡ true → StandsWhole name_of records name
  record_stands [] h e = absurd (cc)
  record_stands (entry ∷ units) h e =
      elim (one_of (list_any (λ dep. bytes_eq dep.name name) entry.1.unit.records) (units_need name units) e) [
        | inl e ↦ value_stands entry.1.unit.records entry.1.values e h.0
        | inr e ↦ record_stands units h.1 e
      ]

-- what holds of the value that passes
any_has : {X : Type 0} (test : X → Bool) (Q : Type 0) (o : Option X) → ((x : X) → o ≡ Some x → test x ≡ true → Q) → option_any test o ≡ true → Q
any_has test Q None f e = absurd (cc)
any_has test Q (Some x) f e = f x refl e

-- the place of a value that passes
place_of : {X : Type 0} (test : X → Bool) (Q : Type 0) (xs : List (Option X)) → ((i : ℕ) (x : X) → get_or xs i None ≡ Some x → test x ≡ true → Q) → list_any (option_any test) xs ≡ true → Q
place_of test Q [] f e = absurd (cc)
place_of test Q (o ∷ xs) f e =
    elim (one_of (option_any test o) (list_any (option_any test) xs) e) [
      | inl e ↦ any_has test Q o (λ x is passes. f zero x is passes) e
      | inr e ↦ place_of test Q xs (λ i x is passes. f (suc i) x is passes) e
    ]

module _ (name_of : List ℕ → List ℕ) (s : State) (h : NeededStand name_of s) (name : List ℕ) where
  abbrev Whole : Type 0
  Whole = StandsWhole name_of s.records name

  by_held : list_any (option_any (λ mark. units_need name (seen_at s mark))) s.held ≡ true → Whole
  by_held e =
      place_of (λ mark. units_need name (seen_at s mark)) Whole s.held
      (λ lane mark is passes. record_stands name_of s.records name (seen_at s mark) (subst (λ (o : Option ℕ). IfSome o (λ m. RecordsStand name_of s.records (seen_at s m))) is (h.held lane)) passes) e

  by_import : option_any (λ open_import. units_need name (seen_at s open_import.mark)) s.import ≡ true → Whole
  by_import e =
      any_has (λ open_import. units_need name (seen_at s open_import.mark)) Whole s.import
      (λ i is passes. record_stands name_of s.records name (seen_at s i.mark) (subst (λ (o : Option Import). IfSome o (λ i. RecordsStand name_of s.records (seen_at s i.mark))) is h.imported) passes) e

  by_pending : option_any (λ mark. units_need name (units_at s.publications mark)) s.pending ≡ true → Whole
  by_pending e =
      any_has (λ mark. units_need name (units_at s.publications mark)) Whole s.pending
      (λ mark is passes. record_stands name_of s.records name (units_at s.publications mark) (subst (λ (o : Option ℕ). IfSome o (λ m. RecordsStand name_of s.records (units_at s.publications m))) is h.pending) passes) e

  abbrev Visible : Bool
  Visible = units_need name (visible s)

  abbrev Pending : Bool
  Pending = option_any (λ mark. units_need name (units_at s.publications mark)) s.pending

  abbrev Imported : Bool
  Imported = option_any (λ open_import. units_need name (seen_at s open_import.mark)) s.import

  second : (Visible ≡ true) ⊎ (Pending ≡ true) → Whole
  second (inl e) = record_stands name_of s.records name (visible s) h.visible_ones e
  second (inr e) = by_pending e

  third : ((Visible || Pending) ≡ true) ⊎ (Imported ≡ true) → Whole
  third (inl e) = second (one_of Visible Pending e)
  third (inr e) = by_import e

  fourth : ((Visible || Pending || Imported) ≡ true) ⊎ (units_need name (seen_at s s.current) ≡ true) → Whole
  fourth (inl e) = third (one_of (Visible || Pending) Imported e)
  fourth (inr e) = record_stands name_of s.records name (seen_at s s.current) h.current e

  fifth : ((Visible || Pending || Imported || units_need name (seen_at s s.current)) ≡ true) ⊎ (list_any (option_any (λ mark. units_need name (seen_at s mark))) s.held ≡ true) → Whole
  fifth (inl e) = fourth (one_of (Visible || Pending || Imported) (units_need name (seen_at s s.current)) e)
  fifth (inr e) = by_held e

  pub needed_stands : is_needed s name ≡ true → StandsWhole name_of s.records name
  unfolding is_needed
  needed_stands e = fifth (one_of (Visible || Pending || Imported || units_need name (seen_at s s.current)) (list_any (option_any (λ mark. units_need name (seen_at s mark))) s.held) e)
