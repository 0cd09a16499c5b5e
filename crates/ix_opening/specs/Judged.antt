-- What a unit file is taken for, by the record files.
use Rattle.std.specs.Prelude.{◌≡◌, ℕ, List, Option, Some, None, Ok, Err}
use Rattle.ix_record.specs.declared.value.RecordValue.{RecordValue}
use Rattle.ix_unit.specs.declared.value.RecordDep.{RecordDep}
use Rattle.ix_unit.specs.declared.value.UnitValue.{UnitValue}
use Rattle.ix_unit.specs.Spelling.{UnitSpelling}
use Rattle.ix_machine.specs.declared.opened.UnitFault.{UnitFault}
use Rattle.ix_machine.specs.Opening.{values_in, judged}
use Rattle.ix_machine.specs.Sound.{ValuesStand}
use Rattle.ix_machine.specs.State.{Files}
use Rattle.ix_opening.specs.declared.units.Judged.{Judged}
use Rattle.ix_opening.specs.declared.units.Judged.TheVariants.{Sound, Refused}

-- the records of the dependencies stand whole, or the first that doesn't has this fault
abbrev pub HaveFault : (List ℕ → List ℕ) → Files → List RecordDep → Option UnitFault → Type 0
HaveFault name_of records deps None = (values : List RecordValue) × ValuesStand name_of records deps values
HaveFault name_of records deps (Some fault) = values_in name_of records deps ≡ Err fault

-- the unit file is one of this unit, with these values
pub record IsSoundAs (name_of : List ℕ → List ℕ) (records : Files) (name bytes : List ℕ) (unit : UnitValue) : Type 0 where
  pub values : List RecordValue
  pub stand : ValuesStand name_of records unit.records values
  pub is : judged name_of records name bytes ≡ Ok (record { unit = unit; values = values })

-- the unit file is what it was taken for
abbrev pub IsJudged : (List ℕ → List ℕ) → Files → List ℕ → List ℕ → Judged → Type 0
IsJudged name_of records name bytes (Sound unit) = IsSoundAs name_of records name bytes unit.value
IsJudged name_of records name bytes (Refused fault) = judged name_of records name bytes ≡ Err fault

-- a unit that was taken for sound is spelled by the bytes and has the name
abbrev pub IsUnitOf : (List ℕ → List ℕ) → List ℕ → List ℕ → Judged → Type 0
IsUnitOf name_of name bytes (Sound unit) = UnitSpelling bytes unit.value × (name ≡ name_of unit.value.output)
IsUnitOf name_of name bytes (Refused fault) = Unit {0}
