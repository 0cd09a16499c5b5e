-- A unit that is put where there was none, and values that its records' names decide.
use Rattle.std.proofs.Common.{◌≡◌, ℕ, ◌≤◌, ◌⊎◌, inl, inr, List, [], ◌∷◌, length, map, Some, Contains, sym, ap, subst, ◌∙◌, arith}
use Rattle.std.specs.List.{slice_get}
use Rattle.std.specs.Option.{option_map}
use Rattle.std.proofs.lemmas.List.{length-map}
use Rattle.std.proofs.lemmas.Option.{slice_get-map}
use Rattle.ix_types.specs.Row.{text_cmp}
use Rattle.ix_record.specs.declared.value.RecordValue.{RecordValue}
use Rattle.ix_unit.specs.declared.value.RecordDep.{RecordDep}
use Rattle.ix_unit.specs.declared.batch.UnitPut.{UnitPut}
use Rattle.ix_model.specs.declared.publication.StoredUnit.{StoredUnit}
use Rattle.ix_model.specs.Units.{Units, NamesRise}
use Rattle.ix_answers.specs.Batches.{LeadsTo, HaveOneValue}
use Rattle.ix_answers.specs.Meanings.{IsRecord}
use Rattle.ix_pages.specs.Pairs.{look_up}
use Rattle.ix_outline.specs.Outline.{outline_of}
use Rattle.ix_outline.specs.Moving.{Named}
use Rattle.ix_outline.specs.Following.{Follows}
use Rattle.ix_outline.specs.declared.outline.Outline.{Outline}
use Rattle.ix_outline.proofs.Members.{has, contains}
use Rattle.ix_outline.proofs.Recorded.{has-at}

module _ (name : List ℕ) (stored : StoredUnit) (value_of : List ℕ → RecordValue) (values : stored.values ≡ map (λ dep. value_of dep.name) stored.unit.records) where
  abbrev alone : Units
  alone = (name, stored) ∷ []

  only-entry : (entry : List ℕ × StoredUnit) → Contains alone entry → (name, stored) ≡ entry
  only-entry entry c = cases (has alone entry c)
    where
      cases : ((name, stored) ≡ entry) ⊎ ⊥ → (name, stored) ≡ entry
      cases (inl e) = e
      cases (inr h) = absurd h

  as_many : length stored.unit.records ≤ length stored.values
  as_many =
      let e : length stored.values ≡ length stored.unit.records = ap (λ (vs : List RecordValue). length vs) values ∙ length-map stored.unit.records (λ (dep : RecordDep). value_of dep.name) in
      omega arith

  enough : (entry : List ℕ × StoredUnit) → Contains alone entry → length entry.1.unit.records ≤ length entry.1.values
  enough entry c = subst (λ (x : List ℕ × StoredUnit). length x.1.unit.records ≤ length x.1.values) (only-entry entry c) as_many

  dep-here : (dep : RecordDep) (value : RecordValue) → IsRecord alone dep value → (k : ℕ) × (slice_get stored.unit.records k ≡ Some dep) × (slice_get stored.values k ≡ Some value)
  dep-here dep value r =
      let e = sym (only-entry r.entry r.of_units) in (
        r.place,
        subst (λ (x : List ℕ × StoredUnit). slice_get x.1.unit.records r.place ≡ Some dep) e r.lists,
        subst (λ (x : List ℕ × StoredUnit). slice_get x.1.values r.place ≡ Some value) e r.has_value,
      )

  value-is : (dep : RecordDep) (value : RecordValue) → IsRecord alone dep value → value ≡ value_of dep.name
  value-is dep value r =
      let h = dep-here dep value r in
      let there : Some value ≡ option_map (λ (d : RecordDep). value_of d.name) (slice_get stored.unit.records h.0) =
      sym h.2 ∙ (ap (λ (vs : List RecordValue). slice_get vs h.0) values ∙ slice_get-map (λ (d : RecordDep). value_of d.name) stored.unit.records h.0) in
      let is : Some value ≡ Some (value_of dep.name) = there ∙ ap (option_map (λ (d : RecordDep). value_of d.name)) h.1 in
      cc

  one_value : HaveOneValue [] alone
  one_value first second value other a b e = value-is first value a ∙ (ap value_of e ∙ sym (value-is second other b))

  pub first-follows : (put : UnitPut) (bodies : Named Outline) → LeadsTo (put ∷ []) [] [] alone → NamesRise alone
      → ((dep : RecordDep) → Contains stored.unit.records dep → look_up text_cmp bodies dep.name ≡ Some (outline_of (value_of dep.name))) → Follows (put ∷ []) [] bodies [] alone
  first-follows put bodies leads rises at_hand = record {
    leads = leads;
    rises = rises;
    whole = enough;
    one = one_value;
    at_hand = λ dep value r not_before.
        let h = dep-here dep value r in
        at_hand dep (contains stored.unit.records dep (has-at stored.unit.records h.0 dep h.1)) ∙ ap (λ (v : RecordValue). Some (outline_of v)) (sym (value-is dep value r));
  }
