-- When records have one value over maps of units.
use Rattle.std.specs.Prelude.{◌≡◌, ℕ, List}
use Rattle.ix_record.specs.declared.value.RecordValue.{RecordValue}
use Rattle.ix_unit.specs.declared.value.RecordDep.{RecordDep}
use Rattle.ix_model.specs.Units.{Units}
use Rattle.ix_answers.specs.Meanings.{IsRecord}

-- a record of the one map and a record of the other have one value where they have one name
abbrev pub AgreeOnRecords : Units → Units → Type 0
AgreeOnRecords before after =
    (first second : RecordDep) (value other : RecordValue) → IsRecord before first value → IsRecord after second other → first.name ≡ second.name → value ≡ other

-- each record has the value of its name
abbrev pub HasValuesByName : (List ℕ → RecordValue) → Units → Type 0
HasValuesByName value_of units = (dep : RecordDep) (value : RecordValue) → IsRecord units dep value → value ≡ value_of dep.name
