-- What opening takes for sound.
use Rattle.std.proofs.Common.{◌≡◌, ℕ, Bool, true, false, cond, List, [], ◌∷◌, Option, Some, None, option_map, Result, Ok, Err, refl, sym, ap, subst, ◌∙◌}
use Rattle.std.specs.declared.cmp.Ordering.TheVariants.{Less}
use Rattle.std.specs.List.{AllByRecursion, filter_map, cons_option}
use Rattle.std.specs.List.Sorted.{IsStrictlySortedBy}
use Rattle.std.specs.Result.{result_ok}
use Rattle.std.specs.Map.{lookup, keys_of}
use Rattle.std.specs.BTreeMap.{is_at}
use Rattle.std.specs.Str.{bytes_eq}
use Rattle.std.proofs.lemmas.Cmp.{nat_list_eq_equiv}
use Rattle.ix_types.specs.Row.{text_cmp}
use Rattle.ix_wire.specs.Input.{Input, start}
use Rattle.ix_wire.specs.Spelling.{IsBytes}
use Rattle.ix_record.specs.declared.value.RecordValue.{RecordValue}
use Rattle.ix_record.specs.Reading as record_reading
use Rattle.ix_record.specs.Reading.{record_at}
use Rattle.ix_record.specs.Spelling.{RecordSpelling}
use Rattle.ix_record.proofs.Door as record_door
use Rattle.ix_unit.specs.declared.fault.UnitError.{UnitError}
use Rattle.ix_unit.specs.declared.value.RecordDep.{RecordDep}
use Rattle.ix_unit.specs.declared.value.UnitValue.{UnitValue}
use Rattle.ix_unit.specs.Reading.{Read, unit_fields_at, seal_fault}
use Rattle.ix_unit.specs.Spelling.{UnitSpelling}
use Rattle.ix_unit.proofs.Door.{spelled_is_read, read_was_spelled}
use Rattle.ix_model.specs.declared.publication.StoredUnit.{StoredUnit}
use Rattle.ix_model.specs.Units.{NamesRise}
use Rattle.ix_machine.specs.declared.opened.UnitFault.{UnitFault}
use Rattle.ix_machine.specs.declared.opened.UnitFault.TheVariants.{WrongName}
use Rattle.ix_machine.specs.Opening.{sealed, sealed_unit, unit_of, value_or_damaged, value_in, first_and_rest, values_in, stored, judged_unit, judged, sound_at, opening, IsSoundUnit, AreFiles}
use Rattle.ix_machine.specs.Run.{IsSoundOpening}
use Rattle.ix_machine.specs.Sound.{StandsAs, ValuesStand, RecordsStand}
use Rattle.ix_machine.specs.State.{Files}
use Rattle.ix_machine.specs.Step.{read_value, value_of}
use Rattle.ix_machine.proofs.Lists.{same_bytes}

-- ---- the unit

pub unit_was_spelled : (bytes : List ℕ) (unit : UnitValue) → IsBytes bytes → unit_of bytes ≡ Ok unit → UnitSpelling bytes unit
unit_was_spelled bytes unit fits e = by_read (unit_fields_at (start bytes)) refl e
  where
    by_seal : (v : UnitValue × Input) → unit_fields_at (start bytes) ≡ Ok v → (o : Option UnitError) → seal_fault bytes v.1.at ≡ o → sealed v.0 o ≡ Ok unit → UnitSpelling bytes unit
    by_seal v read None whole e = let same : v.0 ≡ unit = cc in subst (UnitSpelling bytes) same (read_was_spelled bytes v.0 v.1 fits (read, whole))
    by_seal v read (Some fault) whole e = absurd (cc)

    by_read : (r : Read UnitValue) → unit_fields_at (start bytes) ≡ r → sealed_unit bytes r ≡ Ok unit → UnitSpelling bytes unit
    by_read (Ok v) read e = by_seal v read (seal_fault bytes v.1.at) refl e
    by_read (Err fault) read e = absurd (cc)

spelled_unit : (bytes : List ℕ) (unit : UnitValue) → UnitSpelling bytes unit → unit_of bytes ≡ Ok unit
spelled_unit bytes unit spelled = let read = spelled_is_read bytes unit spelled in ap (sealed_unit bytes) read.1.0 ∙ ap (sealed unit) read.1.1

-- ---- its records

record_was_spelled : (bytes : List ℕ) (value : RecordValue) → IsBytes bytes → value_of bytes ≡ Some value → RecordSpelling bytes value
record_was_spelled bytes value fits e = by_read (record_at (start bytes)) refl e
  where
    by_read : (r : record_reading.Read RecordValue) → record_at (start bytes) ≡ r → read_value r ≡ Some value → RecordSpelling bytes value
    by_read (Ok v) read e = let same : v.0 ≡ value = cc in subst (RecordSpelling bytes) same (record_door.read_was_spelled bytes v.0 v.1 fits read)
    by_read (Err fault) read e = absurd (cc)

pub spelled_record : (bytes : List ℕ) (value : RecordValue) → RecordSpelling bytes value → value_of bytes ≡ Some value
spelled_record bytes value spelled = let read = record_door.spelled_is_read bytes value spelled in ap read_value read.1

found_bytes : (files : Files) (name bytes : List ℕ) → AllByRecursion (λ file. IsBytes file.1) files → lookup (is_at (text_cmp name)) files ≡ Some bytes → IsBytes bytes
found_bytes [] name bytes all e = absurd (cc)
found_bytes (file ∷ files) name bytes all e =
    (elim (is_at (text_cmp name) file.0) as (λ b. cond b (Some file.1) (lookup (is_at (text_cmp name)) files) ≡ Some bytes → IsBytes bytes) [
      | true ↦ λ e. let same : file.1 ≡ bytes = cc in subst IsBytes same all.0
      | false ↦ λ e. found_bytes files name bytes all.1 e
    ]) e

module _ (name_of : List ℕ → List ℕ) (records : Files) where
  pub value_stands : (name : List ℕ) (value : RecordValue) → AllByRecursion (λ file. IsBytes file.1) records → value_in name_of name (lookup (is_at (text_cmp name)) records) ≡ Ok value → StandsAs name_of records name value
  value_stands name value fits e = by_file (lookup (is_at (text_cmp name)) records) refl e
    where
      by_value : (bytes : List ℕ) → lookup (is_at (text_cmp name)) records ≡ Some bytes → name ≡ name_of bytes → (o : Option RecordValue) → value_of bytes ≡ o → value_or_damaged name o ≡ Ok value → StandsAs name_of records name value
      by_value bytes stands named None is e = absurd (cc)
      by_value bytes stands named (Some v) is e =
          let same : v ≡ value = cc in
          record { bytes = bytes; stands = stands; named = named; spelled = record_was_spelled bytes value (found_bytes records name bytes fits stands) (is ∙ ap Some same) }

      by_name : (bytes : List ℕ) → lookup (is_at (text_cmp name)) records ≡ Some bytes → (b : Bool) → bytes_eq name (name_of bytes) ≡ b
          → value_or_damaged name (cond b (value_of bytes) None) ≡ Ok value → StandsAs name_of records name value
      by_name bytes stands true is e = by_value bytes stands (same_bytes name (name_of bytes) is) (value_of bytes) refl e
      by_name bytes stands false is e = absurd (cc)

      by_file : (o : Option (List ℕ)) → lookup (is_at (text_cmp name)) records ≡ o → value_in name_of name o ≡ Ok value → StandsAs name_of records name value
      by_file None stands e = absurd (cc)
      by_file (Some bytes) stands e = by_name bytes stands (bytes_eq name (name_of bytes)) refl e

  values_stand : (deps : List RecordDep) (values : List RecordValue) → AllByRecursion (λ file. IsBytes file.1) records → values_in name_of records deps ≡ Ok values → ValuesStand name_of records deps values
  values_stand [] values fits e = let same : [] ≡ values = cc in subst (ValuesStand name_of records []) same tt
  values_stand (dep ∷ deps) values fits e =
      (elim (value_in name_of dep.name (lookup (is_at (text_cmp dep.name)) records)) as (λ r. value_in name_of dep.name (lookup (is_at (text_cmp dep.name)) records) ≡ r → first_and_rest r (values_in name_of records deps) ≡ Ok values → ValuesStand name_of records (dep ∷ deps) values) [
        | Err fault ↦ λ is e. absurd (cc)
        | Ok value ↦ λ is e. (elim (values_in name_of records deps) as (λ r. values_in name_of records deps ≡ r → first_and_rest (Ok value) r ≡ Ok values → ValuesStand name_of records (dep ∷ deps) values) [
          | Err fault ↦ λ more e. absurd (cc)
          | Ok others ↦ λ more e.
              let same : value ∷ others ≡ values = cc in
              subst (ValuesStand name_of records (dep ∷ deps)) same (value_stands dep.name value fits is, values_stand deps others fits more)
        ]) refl e
      ]) refl e

  stands_value : (name : List ℕ) (value : RecordValue) → StandsAs name_of records name value → value_in name_of name (lookup (is_at (text_cmp name)) records) ≡ Ok value
  stands_value name value h =
      let named : bytes_eq name (name_of h.bytes) ≡ true = ap (bytes_eq name) (sym h.named) ∙ nat_list_eq_equiv.refl name in
      ap (value_in name_of name) h.stands
      ∙ (ap (λ (b : Bool). value_or_damaged name (cond b (value_of h.bytes) None)) named
      ∙ ap (value_or_damaged name) (spelled_record h.bytes value h.spelled))

  stand_values : (deps : List RecordDep) (values : List RecordValue) → ValuesStand name_of records deps values → values_in name_of records deps ≡ Ok values
  stand_values [] [] h = refl
  stand_values [] (value ∷ values) h = absurd h
  stand_values (dep ∷ deps) [] h = absurd h
  stand_values (dep ∷ deps) (value ∷ values) h =
      ap (λ (r : Result RecordValue UnitFault). first_and_rest r (values_in name_of records deps)) (stands_value dep.name value h.0)
      ∙ ap (first_and_rest (Ok value)) (stand_values deps values h.1)

  -- ---- both

  pub judged_is_sound : (name bytes : List ℕ) (found : StoredUnit) → AllByRecursion (λ file. IsBytes file.1) records → IsBytes bytes → judged name_of records name bytes ≡ Ok found → IsSoundUnit name_of records name bytes found
  judged_is_sound name bytes found fits is_bytes e = by_unit (unit_of bytes) refl e
    where
      by_values : (unit : UnitValue) → unit_of bytes ≡ Ok unit → name ≡ name_of unit.output → (r : Result (List RecordValue) UnitFault) → values_in name_of records unit.records ≡ r → stored unit r ≡ Ok found → IsSoundUnit name_of records name bytes found
      by_values unit read named (Ok values) is e =
          let whole : StoredUnit = record { unit = unit; values = values } in
          let same : whole ≡ found = cc in
          subst (IsSoundUnit name_of records name bytes) same (record { spelled = unit_was_spelled bytes unit is_bytes read; named = named; values = values_stand unit.records values fits is })
      by_values unit read named (Err fault) is e = absurd (cc)

      by_name : (unit : UnitValue) → unit_of bytes ≡ Ok unit → (b : Bool) → bytes_eq name (name_of unit.output) ≡ b
          → cond b (stored unit (values_in name_of records unit.records)) (Err WrongName) ≡ Ok found → IsSoundUnit name_of records name bytes found
      by_name unit read true is e = by_values unit read (same_bytes name (name_of unit.output) is) (values_in name_of records unit.records) refl e
      by_name unit read false is e = absurd (cc)

      by_unit : (r : Result UnitValue UnitFault) → unit_of bytes ≡ r → judged_unit name_of records name r ≡ Ok found → IsSoundUnit name_of records name bytes found
      by_unit (Err fault) read e = absurd (cc)
      by_unit (Ok unit) read e = by_name unit read (bytes_eq name (name_of unit.output)) refl e

  pub sound_is_judged : (name bytes : List ℕ) (found : StoredUnit) → IsSoundUnit name_of records name bytes found → judged name_of records name bytes ≡ Ok found
  sound_is_judged name bytes found h =
      let named : bytes_eq name (name_of found.unit.output) ≡ true = ap (bytes_eq name) (sym h.named) ∙ nat_list_eq_equiv.refl name in
      ap (judged_unit name_of records name) (spelled_unit bytes found.unit h.spelled)
      ∙ (ap (λ (b : Bool). cond b (stored found.unit (values_in name_of records found.unit.records)) (Err WrongName)) named
      ∙ ap (stored found.unit) (stand_values found.unit.records found.values h.values))

  all_stand : (units : Files) → AllByRecursion (λ file. IsBytes file.1) units → AllByRecursion (λ file. IsBytes file.1) records → RecordsStand name_of records (filter_map (sound_at name_of records) units)
  all_stand [] fits record_bytes = tt
  all_stand (file ∷ units) fits record_bytes =
      (elim (judged name_of records file.0 file.1) as (λ r. judged name_of records file.0 file.1 ≡ r → RecordsStand name_of records (cons_option (option_map (λ unit. (file.0, unit)) (result_ok r)) (filter_map (sound_at name_of records) units))) [
        | Ok found ↦ λ e. ((judged_is_sound file.0 file.1 found record_bytes fits.0 e).values, all_stand units fits.1 record_bytes)
        | Err fault ↦ λ e. all_stand units fits.1 record_bytes
      ]) refl

  pub opens_sound : (units : Files) → AreFiles units → AreFiles records → IsSoundOpening name_of (opening name_of units records)
  opens_sound units fits record_files = record { rising = record_files.rising; stand = all_stand units fits.bytes record_files.bytes }

  kept_keys : (P : List ℕ → Type 0) (units : Files) → AllByRecursion P (keys_of units) → AllByRecursion P (keys_of (filter_map (sound_at name_of records) units))
  kept_keys P [] all = tt
  kept_keys P (file ∷ units) all =
      elim (judged name_of records file.0 file.1) as (λ r. AllByRecursion P (keys_of (cons_option (option_map (λ unit. (file.0, unit)) (result_ok r)) (filter_map (sound_at name_of records) units)))) [
        | Ok found ↦ (all.0, kept_keys P units all.1)
        | Err fault ↦ kept_keys P units all.1
      ]

  pub kept_rise : (units : Files) → IsStrictlySortedBy text_cmp (keys_of units) → IsStrictlySortedBy text_cmp (keys_of (filter_map (sound_at name_of records) units))
  unfolding IsStrictlySortedBy
  kept_rise [] rising = rising
  kept_rise (file ∷ units) rising =
      elim (judged name_of records file.0 file.1) as (λ r. IsStrictlySortedBy text_cmp (keys_of (cons_option (option_map (λ unit. (file.0, unit)) (result_ok r)) (filter_map (sound_at name_of records) units)))) [
        | Ok found ↦ (kept_keys (λ z. text_cmp file.0 z ≡ Less) units rising.0, kept_rise units rising.1)
        | Err fault ↦ kept_rise units rising.1
      ]

  pub units_rise : (units : Files) → AreFiles units → NamesRise (opening name_of units records).units
  units_rise units fits = kept_rise units fits.rising
