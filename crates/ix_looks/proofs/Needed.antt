-- The records that units need, and the values that they have for them.
use Rattle.std.proofs.Common.{◌≡◌, ℕ, zero, suc, Bool, true, false, ◌||◌, List, [], ◌∷◌, refl, sym, ap, subst, ◌∙◌, Option, Some, None, Result, Ok, Err, IfOk, IfSome, Contains, slice_get, arith}
use Rattle.std.specs.List.{list_any}
use Rattle.std.specs.Map.{lookup}
use Rattle.std.specs.BTreeMap.{is_at}
use Rattle.std.specs.Str.{bytes_eq}
use Rattle.std.specs.declared.sync.Arc.{Arc}
use Rattle.std.specs.declared.alloc.Global.{Global}
use Rattle.std.proofs.lemmas.Slice.Eq.{bytes_eq-Decides}
use Rattle.ix_types.specs.Row.{text_cmp}
use Rattle.ix_dir.specs.declared.moves.Move.{Move}
use Rattle.ix_record.specs.declared.value.RecordValue.{RecordValue}
use Rattle.ix_record.specs.Spelling.{RecordSpelling}
use Rattle.ix_unit.specs.declared.value.RecordDep.{RecordDep}
use Rattle.ix_shelf.specs.declared.fault.LoadError.{LoadError}
use Rattle.ix_shelf.specs.Answers as shelf
use Rattle.ix_shelf.specs.Shelf.{OnShelf}
use Rattle.ix_model.specs.declared.publication.StoredUnit.{StoredUnit}
use Rattle.ix_model.specs.Units.{Units}
use Rattle.ix_answers.specs.Agreement.{AgreeOnRecords}
use Rattle.ix_answers.specs.Batches.{HaveOneValue}
use Rattle.ix_answers.specs.Meanings.{IsRecord}
use Rattle.ix_machine.specs.Needs.{units_need}
use Rattle.ix_machine.specs.Sound.{StandsAs, ValuesStand, RecordsStand}
use Rattle.ix_machine.specs.State.{Files, State}
use Rattle.ix_changes.specs.Holds.{Holds}
use Rattle.ix_looks.specs.Given.{Laws}
use Rattle.ix_looks.specs.Values.{HasValue}

module _ (name_of : List ℕ → List ℕ) (records : Files) where
  -- ---- a needed record has a value that stands

  module _ (name : List ℕ) where
    -- at the same place of both lists
    record AtOnePlace (deps : List RecordDep) (values : List RecordValue) : Type 0 where
      dep : RecordDep
      value : RecordValue
      place : ℕ
      lists : slice_get deps place ≡ Some dep
      has_value : slice_get values place ≡ Some value
      has_name : dep.name ≡ name
      stands : StandsAs name_of records name value

    abbrev has : RecordDep → Bool
    has dep = bytes_eq dep.name name

    at_next : (d : RecordDep) (v : RecordValue) (deps : List RecordDep) (values : List RecordValue) → AtOnePlace deps values → AtOnePlace (d ∷ deps) (v ∷ values)
    at_next d v deps values at = record { dep = at.dep; value = at.value; place = suc at.place; lists = at.lists; has_value = at.has_value; has_name = at.has_name; stands = at.stands }

    of_values : (deps : List RecordDep) (values : List RecordValue) → ValuesStand name_of records deps values → list_any has deps ≡ true → AtOnePlace deps values
    of_values [] values h needed = absurd (cc)
    of_values (dep ∷ deps) [] h needed = absurd h
    of_values (dep ∷ deps) (value ∷ values) h needed =
        (elim (has dep) as (λ b. has dep ≡ b → (b || list_any has deps) ≡ true → AtOnePlace (dep ∷ deps) (value ∷ values)) [
          | true ↦ λ is needed.
              let same : dep.name ≡ name = (bytes_eq-Decides dep.name name).0 is in
              record { dep = dep; value = value; place = 0; lists = refl; has_value = refl; has_name = same; stands = subst (λ n. StandsAs name_of records n value) same h.0 }
          | false ↦ λ is needed. at_next dep value deps values (of_values deps values h.1 needed)
        ]) refl needed

    pub record Needed (units : Units) : Type 0 where
      pub value : RecordValue
      pub has_value : HasValue units name value
      pub stands : StandsAs name_of records name value

    first_of_units : (u : List ℕ × StoredUnit) (units : Units) → AtOnePlace u.1.unit.records u.1.values → Needed (u ∷ units)
    first_of_units u units at = record {
      value = at.value;
      has_value = record { dep = at.dep; of_units = record { entry = u; of_units = (0, omega arith, refl); place = at.place; lists = at.lists; has_value = at.has_value }; has_name = at.has_name };
      stands = at.stands;
    }

    later_of_units : (u : List ℕ × StoredUnit) (units : Units) → Needed units → Needed (u ∷ units)
    later_of_units u units needed =
        let is = needed.has_value.of_units in
        let at = is.of_units in
        let below = at.1 in
        record {
          value = needed.value;
          has_value = record {
            dep = needed.has_value.dep;
            of_units = record { entry = is.entry; of_units = (suc at.0, omega (arith, below), at.2); place = is.place; lists = is.lists; has_value = is.has_value };
            has_name = needed.has_value.has_name;
          };
          stands = needed.stands;
        }

    pub needed_value : (units : Units) → RecordsStand name_of records units → units_need name units ≡ true → Needed units
    needed_value [] h needed = absurd (cc)
    needed_value (u ∷ units) h needed =
        (elim (list_any has u.1.unit.records) as (λ b. list_any has u.1.unit.records ≡ b → (b || units_need name units) ≡ true → Needed (u ∷ units)) [
          | true ↦ λ is needed. first_of_units u units (of_values u.1.unit.records u.1.values h.0 is)
          | false ↦ λ is needed. later_of_units u units (needed_value units h.1 needed)
        ]) refl needed

  -- ---- a record name has one value

  value_stands : (deps : List RecordDep) (values : List RecordValue) (place : ℕ) (dep : RecordDep) (value : RecordValue) → ValuesStand name_of records deps values → slice_get deps place ≡ Some dep → slice_get values place ≡ Some value
      → StandsAs name_of records dep.name value
  value_stands [] values place dep value h is has = absurd (cc)
  value_stands (d ∷ deps) [] place dep value h is has = absurd h
  value_stands (d ∷ deps) (v ∷ values) zero dep value h is has =
      let same : d ≡ dep = cc in
      let alike : v ≡ value = cc in
      subst (λ x. StandsAs name_of records dep.name x) alike (subst (λ (x : RecordDep). StandsAs name_of records x.name v) same h.0)
  value_stands (d ∷ deps) (v ∷ values) (suc place) dep value h is has = value_stands deps values place dep value h.1 is has

  unit_stands : (units : Units) (entry : List ℕ × StoredUnit) → Contains units entry → RecordsStand name_of records units → ValuesStand name_of records entry.1.unit.records entry.1.values
  unit_stands [] entry (k, small, is) h = absurd (omega (arith, small))
  unit_stands (u ∷ units) entry (zero, small, is) h = subst (λ (e : List ℕ × StoredUnit). ValuesStand name_of records e.1.unit.records e.1.values) is h.0
  unit_stands (u ∷ units) entry (suc k, small, is) h = unit_stands units entry (k, omega (arith, small), is) h.1

  record_stands : (units : Units) (dep : RecordDep) (value : RecordValue) → RecordsStand name_of records units → IsRecord units dep value → StandsAs name_of records dep.name value
  record_stands units dep value h is = value_stands is.entry.1.unit.records is.entry.1.values is.place dep value (unit_stands units is.entry is.of_units h) is.lists is.has_value

  module _ (laws : Laws) where
    one_file : (name other : List ℕ) (value second : RecordValue) → name ≡ other → StandsAs name_of records name value → StandsAs name_of records other second → value ≡ second
    one_file name other value second same a b =
        let there : Some a.bytes ≡ Some b.bytes = sym a.stands ∙ ap (λ n. lookup (is_at (text_cmp n)) records) same ∙ b.stands in
        let alike : a.bytes ≡ b.bytes = cc in
        laws.one_record b.bytes value second (subst (λ x. RecordSpelling x value) alike a.spelled) b.spelled

    pub alone : (units : Units) (name : List ℕ) (value other : RecordValue) → RecordsStand name_of records units → HasValue units name value → HasValue units name other → value ≡ other
    alone units name value other h is also =
        one_file is.dep.name also.dep.name value other (is.has_name ∙ sym also.has_name) (record_stands units is.dep value h is.of_units) (record_stands units also.dep other h also.of_units)

    agree : (before after : Units) → RecordsStand name_of records before → RecordsStand name_of records after → AgreeOnRecords before after
    agree before after h k first second value other is is_other same =
        one_file first.name second.name value other same (record_stands before first value h is) (record_stands after second other k is_other)

    pub one_value : (before after : Units) → RecordsStand name_of records before → RecordsStand name_of records after → HaveOneValue before after
    one_value before after h k = laws.parts before after (agree before before h h) (agree after after k k) (agree before after h k)

-- ---- a load

module _ (laws : Laws) (name_of : List ℕ → List ℕ) (s : State) (on_shelf : OnShelf) (units : Units) (name : List ℕ) (stand : RecordsStand name_of s.records units) (needed : units_need name units ≡ true) where
  pub held_whole : (moves : Option (List Move)) → Holds name_of s on_shelf moves → IfSome moves (shelf.StandsWhole name_of name)
  held_whole None holds = tt
  held_whole (Some moves) holds = laws.whole name_of s on_shelf moves units name holds stand needed

  told_value : (moves : List Move) (value : RecordValue) → Holds name_of s on_shelf (Some moves) → shelf.IsRecordOf name_of name (Some moves) value → HasValue units name value
  told_value moves value holds is =
      let there = needed_value name_of s.records name units stand needed in
      subst (λ v. HasValue units name v) (sym (laws.value name_of s on_shelf moves name value there.value holds there.stands is)) there.has_value

  loaded : (moves : Option (List Move)) (value : RecordValue) → Holds name_of s on_shelf moves → shelf.IsRecordOf name_of name moves value → HasValue units name value
  loaded None value holds is = let is_told : None ≡ Some holds.told = holds.is in absurd (cc)
  loaded (Some moves) value holds is = told_value moves value holds is

  pub load_value : (moves : Option (List Move)) (r : Result (Arc RecordValue Global) LoadError) → Holds name_of s on_shelf moves → IfOk r (λ value. shelf.IsRecordOf name_of name moves value.value) → IfOk r (λ value. HasValue units name value.value)
  load_value moves (Ok value) holds is = loaded moves value.value holds is
  load_value moves (Err e) holds is = tt
