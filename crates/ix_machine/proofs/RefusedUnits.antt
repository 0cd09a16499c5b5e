-- Why opening refuses a unit file.
use Rattle.std.proofs.Common.{◌≡◌, ◌≢◌, ℕ, Bool, true, false, cond, inl, inr, List, [], ◌∷◌, length, ◌+◌, suc, arith, option_map, Option, Some, None, IsSome, Result, Ok, Err, refl, sym, ap, subst, ◌∙◌}
use Rattle.std.specs.List.{AllByRecursion, filter_map, cons_option}
use Rattle.std.specs.Result.{result_ok}
use Rattle.std.specs.Map.{lookup, keys_of}
use Rattle.std.specs.BTreeMap.{is_at}
use Rattle.std.specs.Str.{bytes_eq}
use Rattle.std.proofs.lemmas.Cmp.{nat_list_eq_equiv}
use Rattle.ix_types.specs.Row.{text_cmp}
use Rattle.ix_wire.specs.Input.{Input, start}
use Rattle.ix_wire.specs.Spelling.{IsBytes}
use Rattle.ix_record.specs.declared.value.RecordValue.{RecordValue}
use Rattle.ix_unit.specs.declared.fault.UnitError.{UnitError}
use Rattle.ix_unit.specs.declared.value.RecordDep.{RecordDep}
use Rattle.ix_unit.specs.declared.value.UnitValue.{UnitValue}
use Rattle.ix_unit.specs.Reading.{Read, fault_of, unit_fields_at, seal_fault, unit_fault}
use Rattle.ix_machine.specs.declared.opened.Refused.{Refused}
use Rattle.ix_machine.specs.declared.opened.UnitFault.{UnitFault}
use Rattle.ix_machine.specs.declared.opened.UnitFault.TheVariants.{WrongName, RecordMissing, RecordDamaged}
use Rattle.ix_machine.specs.Needs.{has_name}
use Rattle.ix_machine.specs.Opening.{cause, sealed, sealed_unit, unit_of, whole_value, value_or_damaged, value_in, first_and_rest, values_in, stored, judged_unit, judged, IsReadFault, IsBadRecord, HasBadRecord, IsFirstCause, ListsAll, refusal, sound_at}
use Rattle.ix_machine.specs.Sound.{StandsWhole}
use Rattle.ix_machine.specs.State.{Files}
use Rattle.ix_machine.specs.Step.{value_of}
use Rattle.ix_machine.proofs.Judged.{unit_was_spelled, value_stands, spelled_record}
use Rattle.ix_machine.proofs.Lists.{same_bytes, or_left, or_right}

read_fault : (bytes : List ℕ) (fault : UnitFault) → unit_of bytes ≡ Err fault → IsReadFault bytes fault
unfolding unit_fault
read_fault bytes fault e = by_read (unit_fields_at (start bytes)) refl e
  where
    by_seal : (v : UnitValue × Input) → unit_fields_at (start bytes) ≡ Ok v → (o : Option UnitError) → seal_fault bytes v.1.at ≡ o → sealed v.0 o ≡ Err fault → IsReadFault bytes fault
    by_seal v read None whole e = absurd (cc)
    by_seal v read (Some error) whole e = let same : cause error ≡ fault = cc in record { error = error; is = ap (fault_of bytes) read ∙ whole; gives = sym same }

    by_read : (r : Read UnitValue) → unit_fields_at (start bytes) ≡ r → sealed_unit bytes r ≡ Err fault → IsReadFault bytes fault
    by_read (Ok v) read e = by_seal v read (seal_fault bytes v.1.at) refl e
    by_read (Err error) read e = let same : cause error ≡ fault = cc in record { error = error; is = ap (fault_of bytes) read; gives = sym same }

module _ (name_of : List ℕ → List ℕ) (records : Files) where
  bad_record : (name : List ℕ) (fault : UnitFault) → value_in name_of name (lookup (is_at (text_cmp name)) records) ≡ Err fault → IsBadRecord name_of records name fault
  bad_record name fault e = by_file (lookup (is_at (text_cmp name)) records) refl e
    where
      whole_is : (bytes : List ℕ) → lookup (is_at (text_cmp name)) records ≡ Some bytes → (h : StandsWhole name_of records name) → whole_value name_of name bytes ≡ Some h.0
      whole_is bytes stands h =
          let same : h.1.bytes ≡ bytes = let both : Some h.1.bytes ≡ Some bytes = sym h.1.stands ∙ stands in cc in
          let named : bytes_eq name (name_of h.1.bytes) ≡ true = ap (bytes_eq name) (sym h.1.named) ∙ nat_list_eq_equiv.refl name in
          ap (whole_value name_of name) (sym same)
          ∙ (ap (λ (b : Bool). cond b (value_of h.1.bytes) None) named
          ∙ spelled_record h.1.bytes h.0 h.1.spelled)

      by_value : (bytes : List ℕ) → lookup (is_at (text_cmp name)) records ≡ Some bytes → (o : Option RecordValue) → whole_value name_of name bytes ≡ o → value_or_damaged name o ≡ Err fault → IsBadRecord name_of records name fault
      by_value bytes stands (Some value) is e = absurd (cc)
      by_value bytes stands None is e =
          let same : RecordDamaged name ≡ fault = cc in
          inr (subst (λ (o : Option (List ℕ)). IsSome o) (sym stands) refl, (λ h. let some = whole_is bytes stands h in let both : None ≡ Some h.0 = sym is ∙ some in cc), sym same)

      by_file : (o : Option (List ℕ)) → lookup (is_at (text_cmp name)) records ≡ o → value_in name_of name o ≡ Err fault → IsBadRecord name_of records name fault
      by_file None stands e = let same : RecordMissing name ≡ fault = cc in inl (stands, sym same)
      by_file (Some bytes) stands e = by_value bytes stands (whole_value name_of name bytes) refl e

  first_bad : (deps : List RecordDep) (fault : UnitFault) → AllByRecursion (λ file. IsBytes file.1) records → values_in name_of records deps ≡ Err fault → HasBadRecord name_of records deps fault
  first_bad [] fault fits e = absurd (cc)
  first_bad (dep ∷ deps) fault fits e =
      (elim (value_in name_of dep.name (lookup (is_at (text_cmp dep.name)) records)) as (λ r. value_in name_of dep.name (lookup (is_at (text_cmp dep.name)) records) ≡ r → first_and_rest r (values_in name_of records deps) ≡ Err fault → HasBadRecord name_of records (dep ∷ deps) fault) [
        | Err other ↦ λ is e.
            let same : other ≡ fault = cc in
            record { before = []; bad = dep; behind = deps; parts = refl; whole = tt; gives = bad_record dep.name fault (is ∙ ap Err same) }
        | Ok value ↦ λ is e. (elim (values_in name_of records deps) as (λ r. values_in name_of records deps ≡ r → first_and_rest (Ok value) r ≡ Err fault → HasBadRecord name_of records (dep ∷ deps) fault) [
          | Ok values ↦ λ more e. absurd (cc)
          | Err other ↦ λ more e.
              let same : other ≡ fault = cc in
              let rest = first_bad deps fault fits (more ∙ ap Err same) in
              record {
                before = dep ∷ rest.before;
                bad = rest.bad;
                behind = rest.behind;
                parts = ap (λ (ds : List RecordDep). dep ∷ ds) rest.parts;
                whole = ((value, value_stands name_of records dep.name value fits is), rest.whole);
                gives = rest.gives;
              }
        ]) refl e
      ]) refl e

  pub refusal_is_first : (name bytes : List ℕ) (fault : UnitFault) → AllByRecursion (λ file. IsBytes file.1) records → IsBytes bytes → judged name_of records name bytes ≡ Err fault → IsFirstCause name_of records name bytes fault
  refusal_is_first name bytes fault fits is_bytes e = by_unit (unit_of bytes) refl e
    where
      by_values : (unit : UnitValue) → unit_of bytes ≡ Ok unit → name ≡ name_of unit.output → (r : Result (List RecordValue) UnitFault) → values_in name_of records unit.records ≡ r → stored unit r ≡ Err fault → IsFirstCause name_of records name bytes fault
      by_values unit read named (Ok values) is e = absurd (cc)
      by_values unit read named (Err other) is e =
          let same : other ≡ fault = cc in
          inr (inr (record { unit = unit; spelled = unit_was_spelled bytes unit is_bytes read; named = named; bad = first_bad unit.records fault fits (is ∙ ap Err same) }))

      apart : (unit : UnitValue) → bytes_eq name (name_of unit.output) ≡ false → name ≢ name_of unit.output
      apart unit is same = let yes : bytes_eq name (name_of unit.output) ≡ true = ap (bytes_eq name) (sym same) ∙ nat_list_eq_equiv.refl name in cc

      by_name : (unit : UnitValue) → unit_of bytes ≡ Ok unit → (b : Bool) → bytes_eq name (name_of unit.output) ≡ b
          → cond b (stored unit (values_in name_of records unit.records)) (Err WrongName) ≡ Err fault → IsFirstCause name_of records name bytes fault
      by_name unit read true is e = by_values unit read (same_bytes name (name_of unit.output) is) (values_in name_of records unit.records) refl e
      by_name unit read false is e =
          let same : WrongName ≡ fault = cc in
          inr (inl (record { unit = unit; spelled = unit_was_spelled bytes unit is_bytes read; other = apart unit is; gives = sym same }))

      by_unit : (r : Result UnitValue UnitFault) → unit_of bytes ≡ r → judged_unit name_of records name r ≡ Err fault → IsFirstCause name_of records name bytes fault
      by_unit (Err other) read e = let same : other ≡ fault = cc in inl (read_fault bytes fault (read ∙ ap Err same))
      by_unit (Ok unit) read e = by_name unit read (bytes_eq name (name_of unit.output)) refl e

  -- ---- the list of the refused

  abbrev Named : List (List ℕ) → Refused → Type 0
  Named keys refused = has_name refused.name keys ≡ true

  abbrev Caused : Refused → Type 0
  Caused refused = (bytes : List ℕ) × (judged name_of records refused.name bytes ≡ Err refused.cause)

  abbrev refused_of : Files → List Refused
  refused_of units = filter_map (λ file. refusal file.0 (judged name_of records file.0 file.1)) units

  all_caused : (units : Files) → AllByRecursion Caused (refused_of units)
  all_caused [] = tt
  all_caused (file ∷ units) =
      (elim (judged name_of records file.0 file.1) as (λ r. judged name_of records file.0 file.1 ≡ r → AllByRecursion Caused (cons_option (refusal file.0 r) (refused_of units))) [
        | Ok found ↦ λ is. all_caused units
        | Err fault ↦ λ is. ((file.1, is), all_caused units)
      ]) refl

  all_named : (units : Files) (keys : List (List ℕ)) → ((name : List ℕ) → has_name name (keys_of units) ≡ true → has_name name keys ≡ true) → AllByRecursion (Named keys) (refused_of units)
  all_named [] keys among = tt
  all_named (file ∷ units) keys among =
      elim (judged name_of records file.0 file.1) as (λ r. AllByRecursion (Named keys) (cons_option (refusal file.0 r) (refused_of units))) [
        | Ok found ↦ all_named units keys (λ name e. among name (or_right (bytes_eq file.0 name) e))
        | Err fault ↦ (among file.0 (or_left (has_name file.0 (keys_of units)) (nat_list_eq_equiv.refl file.0)), all_named units keys (λ name e. among name (or_right (bytes_eq file.0 name) e)))
      ]

  all_counted : (units : Files) → length (filter_map (sound_at name_of records) units) + length (refused_of units) ≡ length units
  all_counted [] = refl
  all_counted (file ∷ units) =
      let rest : length (filter_map (sound_at name_of records) units) + length (refused_of units) ≡ length units = all_counted units in
      elim (judged name_of records file.0 file.1) as (λ r. length (cons_option (option_map (λ unit. (file.0, unit)) (result_ok r)) (filter_map (sound_at name_of records) units)) + length (cons_option (refusal file.0 r) (refused_of units)) ≡ suc (length units)) [
        | Ok found ↦ omega (arith, rest)
        | Err fault ↦ omega (arith, rest)
      ]

  pub lists_all : (units : Files) → ListsAll name_of units records
  lists_all units = record { named = all_named units (keys_of units) (λ name e. e); caused = all_caused units; all = all_counted units }
