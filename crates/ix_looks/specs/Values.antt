-- The records that units list, and the values that they have for them.
use Rattle.std.specs.Prelude.{◌≡◌, ℕ, List, map}
use Rattle.std.specs.List.{flat_map}
use Rattle.ix_record.specs.declared.value.RecordValue.{RecordValue}
use Rattle.ix_unit.specs.declared.batch.UnitPut.{UnitPut}
use Rattle.ix_unit.specs.declared.value.RecordDep.{RecordDep}
use Rattle.ix_model.specs.Units.{Units}
use Rattle.ix_answers.specs.Meanings.{IsRecord}

-- one of the units lists a record of this name, and has this value for it
pub record HasValue (units : Units) (name : List ℕ) (value : RecordValue) : Type 0 where
  pub dep : RecordDep
  pub of_units : IsRecord units dep value
  pub has_name : dep.name ≡ name

-- the names of the records that the units list which are put, as often as they are listed
abbrev pub names_listed : List UnitPut → List (List ℕ)
names_listed puts = flat_map (λ put. map (λ dep. dep.name) put.unit.value.records) puts
