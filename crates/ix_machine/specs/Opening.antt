-- What opening finds of two areas of files: its sound units, the refused ones, and the record files.
use Rattle.std.specs.Prelude.{◌≡◌, IsSome, ◌++◌, ◌⊎◌, ◌≢◌, ℕ, if◌then◌else◌, List, [], ◌∷◌, Option, Some, None, option_map, Result, Ok, Err, ◌+◌, true, length}
use Rattle.std.specs.List.{filter_map, AllByRecursion}
use Rattle.std.specs.List.Sorted.{IsStrictlySortedBy}
use Rattle.std.specs.Result.{result_ok}
use Rattle.std.specs.Map.{lookup, keys_of}
use Rattle.std.specs.BTreeMap.{is_at}
use Rattle.std.specs.Str.{bytes_eq}
use Rattle.ix_types.specs.Row.{text_cmp}
use Rattle.ix_wire.specs.Input.{start}
use Rattle.ix_wire.specs.Spelling.{IsBytes}
use Rattle.ix_record.specs.declared.value.RecordValue.{RecordValue}
use Rattle.ix_unit.specs.declared.fault.UnitError.{UnitError}
use Rattle.ix_unit.specs.declared.fault.UnitError.TheVariants as unit
use Rattle.ix_unit.specs.declared.value.RecordDep.{RecordDep}
use Rattle.ix_unit.specs.declared.value.UnitValue.{UnitValue}
use Rattle.ix_unit.specs.Reading.{Read, unit_fields_at, seal_fault, unit_fault}
use Rattle.ix_unit.specs.Spelling.{UnitSpelling}
use Rattle.ix_model.specs.declared.publication.StoredUnit.{StoredUnit}
use Rattle.ix_machine.specs.declared.opened.Refused.{Refused}
use Rattle.ix_machine.specs.declared.opened.UnitFault.{UnitFault}
use Rattle.ix_machine.specs.declared.opened.UnitFault.TheVariants.{Magic, Short, Field, Order, Trailing, Digest, WrongName, RecordMissing, RecordDamaged}
use Rattle.ix_machine.specs.Needs.{has_name}
use Rattle.ix_machine.specs.Run.{Opening}
use Rattle.ix_machine.specs.Sound.{ValuesStand, StandsWhole}
use Rattle.ix_machine.specs.State.{Files}
use Rattle.ix_machine.specs.Step.{value_of}

-- ---- a unit file

-- reading never gives the last one
abbrev pub cause : UnitError → UnitFault
cause unit.BadMagic = Magic
cause unit.Short = Short
cause (unit.BadField at) = Field at
cause (unit.OutOfOrder at) = Order at
cause (unit.Trailing at) = Trailing at
cause unit.BadDigest = Digest
cause unit.Memory = Short

abbrev pub sealed : UnitValue → Option UnitError → Result UnitValue UnitFault
sealed value None = Ok value
sealed value (Some e) = Err (cause e)

abbrev pub sealed_unit : List ℕ → Read UnitValue → Result UnitValue UnitFault
sealed_unit bytes (Ok v) = sealed v.0 (seal_fault bytes v.1.at)
sealed_unit bytes (Err e) = Err (cause e)

-- the unit that the bytes spell, or their first fault
abbrev pub unit_of : List ℕ → Result UnitValue UnitFault
unit_of bytes = sealed_unit bytes (unit_fields_at (start bytes))

-- ---- its records

-- the value of a record file that is what its name says
abbrev pub whole_value : (List ℕ → List ℕ) → List ℕ → List ℕ → Option RecordValue
whole_value name_of name bytes = if bytes_eq name (name_of bytes) then value_of bytes else None

abbrev pub value_or_damaged : List ℕ → Option RecordValue → Result RecordValue UnitFault
value_or_damaged name None = Err (RecordDamaged name)
value_or_damaged name (Some value) = Ok value

abbrev pub value_in : (List ℕ → List ℕ) → List ℕ → Option (List ℕ) → Result RecordValue UnitFault
value_in name_of name None = Err (RecordMissing name)
value_in name_of name (Some bytes) = value_or_damaged name (whole_value name_of name bytes)

abbrev pub first_and_rest : Result RecordValue UnitFault → Result (List RecordValue) UnitFault → Result (List RecordValue) UnitFault
first_and_rest (Err fault) rest = Err fault
first_and_rest (Ok value) (Err fault) = Err fault
first_and_rest (Ok value) (Ok values) = Ok (value ∷ values)

-- the values of the record dependencies, or the fault of the first that is missing or isn't whole
abbrev pub values_in : (List ℕ → List ℕ) → Files → List RecordDep → Result (List RecordValue) UnitFault
values_in name_of records [] = Ok []
values_in name_of records (dep ∷ deps) = first_and_rest (value_in name_of dep.name (lookup (is_at (text_cmp dep.name)) records)) (values_in name_of records deps)

-- ---- all of it

abbrev pub stored : UnitValue → Result (List RecordValue) UnitFault → Result StoredUnit UnitFault
stored value (Ok values) = Ok (record { unit = value; values = values })
stored value (Err fault) = Err fault

abbrev pub judged_unit : (List ℕ → List ℕ) → Files → List ℕ → Result UnitValue UnitFault → Result StoredUnit UnitFault
judged_unit name_of records name (Err fault) = Err fault
judged_unit name_of records name (Ok value) = if bytes_eq name (name_of value.output) then stored value (values_in name_of records value.records) else Err WrongName

-- a unit file: the unit with the values of its records, or the first cause to refuse it
abbrev pub judged : (List ℕ → List ℕ) → Files → List ℕ → List ℕ → Result StoredUnit UnitFault
judged name_of records name bytes = judged_unit name_of records name (unit_of bytes)

abbrev pub sound_at : (List ℕ → List ℕ) → Files → List ℕ × List ℕ → Option (List ℕ × StoredUnit)
sound_at name_of records file = option_map (λ unit. (file.0, unit)) (result_ok (judged name_of records file.0 file.1))

abbrev pub refusal : {X : Type 0} → List ℕ → Result X UnitFault → Option Refused
refusal name (Ok x) = None
refusal name (Err fault) = Some (record { name = name; cause = fault })

-- what opening finds of the units area and the records area, both rising by name
abbrev pub opening : (List ℕ → List ℕ) → Files → Files → Opening
opening name_of units records = record {
  units = filter_map (sound_at name_of records) units;
  refused = filter_map (λ file. refusal file.0 (judged name_of records file.0 file.1)) units;
  records = records;
}

-- the bytes spell the unit, its name is that of its output path, and its records stand whole with these values
pub record IsSoundUnit (name_of : List ℕ → List ℕ) (records : Files) (name bytes : List ℕ) (found : StoredUnit) : Type 0 where
  pub spelled : UnitSpelling bytes found.unit
  pub named : name ≡ name_of found.unit.output
  pub values : ValuesStand name_of records found.unit.records found.values

-- files that rise by name, each of bytes
pub record AreFiles (files : Files) : Type 0 where
  pub rising : IsStrictlySortedBy text_cmp (keys_of files)
  pub bytes : AllByRecursion (λ file. IsBytes file.1) files

-- ---- why a unit file is refused: the first cause

-- the bytes spell no unit
pub record IsReadFault (bytes : List ℕ) (fault : UnitFault) : Type 0 where
  pub error : UnitError
  pub is : unit_fault bytes ≡ Some error
  pub gives : fault ≡ cause error

-- they spell one of another name
pub record IsOfAnotherName (name_of : List ℕ → List ℕ) (name bytes : List ℕ) (fault : UnitFault) : Type 0 where
  pub unit : UnitValue
  pub spelled : UnitSpelling bytes unit
  pub other : name ≢ name_of unit.output
  pub gives : fault ≡ WrongName

-- the record is missing, or what stands under its name isn't whole
abbrev pub IsBadRecord : (List ℕ → List ℕ) → Files → List ℕ → UnitFault → Type 0
IsBadRecord name_of records name fault =
    ((lookup (is_at (text_cmp name)) records ≡ None) × (fault ≡ RecordMissing name))
    ⊎ (IsSome (lookup (is_at (text_cmp name)) records) × (StandsWhole name_of records name → ⊥) × (fault ≡ RecordDamaged name))

-- of these record dependencies one is bad, and all before it stand whole
pub record HasBadRecord (name_of : List ℕ → List ℕ) (records : Files) (deps : List RecordDep) (fault : UnitFault) : Type 0 where
  pub before : List RecordDep
  pub bad : RecordDep
  pub behind : List RecordDep
  pub parts : deps ≡ before ++ bad ∷ behind
  pub whole : AllByRecursion (λ dep. StandsWhole name_of records dep.name) before
  pub gives : IsBadRecord name_of records bad.name fault

-- they spell a unit of this name, one of whose records is bad
pub record IsWithoutRecords (name_of : List ℕ → List ℕ) (records : Files) (name bytes : List ℕ) (fault : UnitFault) : Type 0 where
  pub unit : UnitValue
  pub spelled : UnitSpelling bytes unit
  pub named : name ≡ name_of unit.output
  pub bad : HasBadRecord name_of records unit.records fault

abbrev pub IsFirstCause : (List ℕ → List ℕ) → Files → List ℕ → List ℕ → UnitFault → Type 0
IsFirstCause name_of records name bytes fault =
    IsReadFault bytes fault ⊎ (IsOfAnotherName name_of name bytes fault ⊎ IsWithoutRecords name_of records name bytes fault)

-- each refused file is one of the area, with the cause for some bytes, and each file is sound or refused
pub record ListsAll (name_of : List ℕ → List ℕ) (units records : Files) : Type 0 where
  pub named : AllByRecursion (λ refused. has_name refused.name (keys_of units) ≡ true) (opening name_of units records).refused
  pub caused : AllByRecursion (λ refused. (bytes : List ℕ) × (judged name_of records refused.name bytes ≡ Err refused.cause)) (opening name_of units records).refused
  pub all : length (opening name_of units records).units + length (opening name_of units records).refused ≡ length units
