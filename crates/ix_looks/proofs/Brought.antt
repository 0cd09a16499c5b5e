-- The records that units need behind a batch.
use Rattle.std.proofs.Common.{◌≡◌, ◌≢◌, ℕ, ◌⊎◌, inl, inr, true, false, List, [], ◌∷◌, map, Option, Some, None, Contains, refl, sym, ap, ◌∙◌, subst}
use Rattle.std.specs.List.{flat_map}
use Rattle.std.specs.Option.{option_map}
use Rattle.std.specs.Str.{bytes_eq}
use Rattle.std.proofs.lemmas.Slice.Eq.{bytes_eq-Decides}
use Rattle.ix_unit.specs.declared.batch.UnitPut.{UnitPut}
use Rattle.ix_unit.specs.declared.value.RecordDep.{RecordDep}
use Rattle.ix_unit.specs.declared.value.UnitValue.{UnitValue}
use Rattle.ix_model.specs.declared.publication.StoredUnit.{StoredUnit}
use Rattle.ix_model.specs.Units.{Units, NamesRise, unit_named, needs}
use Rattle.ix_answers.specs.Batches.{unit_of, IsUntouched, LeadsTo}
use Rattle.ix_looks.specs.Given.{Laws}
use Rattle.ix_looks.specs.Values.{names_listed}
use Rattle.ix_looks.proofs.Members.{Has, has, contains, map_in, map_out, flat_map_in, flat_map_out, found_entry, entry_found}

-- a unit lists a record of the name
record Lists (unit : UnitValue) (name : List ℕ) : Type 0 where
  dep : RecordDep
  lists : Has unit.records dep
  has_name : dep.name ≡ name

abbrev names_of : UnitValue → List (List ℕ)
names_of unit = map (λ (dep : RecordDep). dep.name) unit.records

-- one of the units that are put lists a record of the name
record IsListedIn (puts : List UnitPut) (name : List ℕ) : Type 0 where
  put : UnitPut
  there : Has puts put
  lists : Lists put.unit.value name

abbrev of_put : UnitPut → List (List ℕ)
of_put put = map (λ (dep : RecordDep). dep.name) put.unit.value.records

listed_out : (puts : List UnitPut) (name : List ℕ) → Contains (names_listed puts) name → IsListedIn puts name
listed_out puts name c =
    let put = flat_map_out of_put puts name (has (names_listed puts) name c) in
    let dep = map_out (λ (d : RecordDep). d.name) put.0.unit.value.records name put.2 in
    record { put = put.0; there = put.1; lists = record { dep = dep.0; lists = dep.1; has_name = dep.2 } }

listed_in : (puts : List UnitPut) (name : List ℕ) → IsListedIn puts name → Contains (names_listed puts) name
listed_in puts name is =
    contains (names_listed puts) name (flat_map_in of_put puts is.put name is.there (map_in (λ (d : RecordDep). d.name) is.put.unit.value.records is.lists.dep name is.lists.lists is.lists.has_name))

-- the unit is found under the name
found_unit : (o : Option StoredUnit) (unit : UnitValue) → option_map (λ (stored : StoredUnit). stored.unit) o ≡ Some unit → (stored : StoredUnit) × (o ≡ Some stored) × (stored.unit ≡ unit)
found_unit None unit is = absurd (cc)
found_unit (Some stored) unit is = let same : stored.unit ≡ unit = cc in (stored, refl, same)

module _ (laws : Laws) where
  abbrev all_names : Units → List (List ℕ)
  all_names units = flat_map (λ (entry : List ℕ × StoredUnit). map (λ (dep : RecordDep). dep.name) entry.1.unit.records) units

  listed_needed : (units : Units) (entry : List ℕ × StoredUnit) (name : List ℕ) → Has units entry → Lists entry.1.unit name → Contains (needs units) name
  listed_needed units entry name there lists =
      ((laws.names_set (all_names units)).same name).1
      (contains (all_names units) name
      (flat_map_in (λ (e : List ℕ × StoredUnit). map (λ (dep : RecordDep). dep.name) e.1.unit.records) units entry name there (map_in (λ (dep : RecordDep). dep.name) entry.1.unit.records lists.dep name lists.lists lists.has_name)))

  found_needed : (units : Units) (name : List ℕ) (unit : UnitValue) (record_name : List ℕ) → unit_of name units ≡ Some unit → Lists unit record_name → Contains (needs units) record_name
  found_needed units name unit record_name is lists =
      let found = found_unit (unit_named name units) unit is in
      let entry = found_entry units name found.0 found.1 in
      let same : entry.0.1.unit ≡ unit = ap (λ (stored : StoredUnit). stored.unit) entry.2 ∙ found.2 in
      listed_needed units entry.0 record_name entry.1 (subst (λ (u : UnitValue). Lists u record_name) (sym same) lists)

  record Needs (units : Units) (name : List ℕ) : Type 0 where
    entry : List ℕ × StoredUnit
    there : Has units entry
    lists : Lists entry.1.unit name

  needed_listed : (units : Units) (name : List ℕ) → Contains (needs units) name → Needs units name
  needed_listed units name needed =
      let all = has (all_names units) name (((laws.names_set (all_names units)).same name).0 needed) in
      let entry = flat_map_out (λ (e : List ℕ × StoredUnit). map (λ (dep : RecordDep). dep.name) e.1.unit.records) units name all in
      let dep = map_out (λ (d : RecordDep). d.name) entry.0.1.unit.records name entry.2 in
      record { entry = entry.0; there = entry.1; lists = record { dep = dep.0; lists = dep.1; has_name = dep.2 } }

  -- the units that are put, by name
  record IsPut (puts : List UnitPut) (name : List ℕ) : Type 0 where
    put : UnitPut
    there : Has puts put
    named : put.name ≡ name

  abbrev IsNotPut : List UnitPut → List ℕ → Type 0
  IsNotPut puts name = (put : UnitPut) → Has puts put → put.name ≢ name

  put_later : (p : UnitPut) (puts : List UnitPut) (name : List ℕ) → (p.name ≡ name → ⊥) → IsPut puts name ⊎ IsNotPut puts name → IsPut (p ∷ puts) name ⊎ IsNotPut (p ∷ puts) name
  put_later p puts name apart (inl is) = inl (record { put = is.put; there = inr is.there; named = is.named })
  put_later p puts name apart (inr none) = inr each
    where
      each : IsNotPut (p ∷ puts) name
      each put (inl same) e = apart (ap (λ (q : UnitPut). q.name) same ∙ e)
      each put (inr there) e = none put there e

  is_put : (puts : List UnitPut) (name : List ℕ) → IsPut puts name ⊎ IsNotPut puts name
  is_put [] name = inr (λ put there e. there)
  is_put (p ∷ puts) name =
      (elim (bytes_eq p.name name) as (λ b. bytes_eq p.name name ≡ b → IsPut (p ∷ puts) name ⊎ IsNotPut (p ∷ puts) name) [
        | true ↦ λ is. inl (record { put = p; there = inl refl; named = (bytes_eq-Decides p.name name).0 is })
        | false ↦ λ is. put_later p puts name (λ e. let no : true ≡ false = sym ((bytes_eq-Decides p.name name).1 e) ∙ is in absurd (cc)) (is_put puts name)
      ]) refl

  module _ (puts : List UnitPut) (gone : List (List ℕ)) (before after : Units) (leads : LeadsTo puts gone before after) where
    pub brought : (name : List ℕ) → Contains (names_listed puts) name → Contains (needs after) name
    brought name c =
        let is = listed_out puts name c in
        found_needed after is.put.name is.put.unit.value name (leads.come is.put (contains puts is.put is.there)) is.lists

    module _ (rises : NamesRise after) (name : List ℕ) (needed : Needs after name) where
      there_now : unit_of needed.entry.0 after ≡ Some needed.entry.1.unit
      there_now = ap (option_map (λ (stored : StoredUnit). stored.unit)) (entry_found after needed.entry rises needed.there)

      by_put : IsPut puts needed.entry.0 ⊎ IsNotPut puts needed.entry.0 → Contains (needs before) name ⊎ Contains (names_listed puts) name
      by_put (inl is) =
          let both : Some is.put.unit.value ≡ Some needed.entry.1.unit = sym (leads.come is.put (contains puts is.put is.there)) ∙ ap (λ n. unit_of n after) is.named ∙ there_now in
          let same : is.put.unit.value ≡ needed.entry.1.unit = cc in
          inr (listed_in puts name (record { put = is.put; there = is.there; lists = subst (λ (u : UnitValue). Lists u name) (sym same) needed.lists }))
      by_put (inr none) =
          let untouched : IsUntouched puts gone needed.entry.0 = record {
            not_put = λ put there. none put (has puts put there);
            not_gone = λ there. let no : None ≡ Some needed.entry.1.unit = sym (leads.go needed.entry.0 there) ∙ there_now in absurd (cc);
          } in
          inl (found_needed before needed.entry.0 needed.entry.1.unit name (sym (leads.stay needed.entry.0 untouched) ∙ there_now) needed.lists)

    pub needed_since : NamesRise after → (name : List ℕ) → Contains (needs after) name → Contains (needs before) name ⊎ Contains (names_listed puts) name
    needed_since rises name needed =
        let is = needed_listed after name needed in
        by_put rises name is (is_put puts is.entry.0)
