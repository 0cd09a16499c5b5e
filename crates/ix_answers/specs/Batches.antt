-- What leads from one map of units to another.
use Rattle.std.specs.Prelude.{◌≡◌, ◌≢◌, ℕ, List, ◌++◌, Option, Some, None, Contains}
use Rattle.std.specs.Option.{option_map}
use Rattle.ix_record.specs.declared.value.RecordValue.{RecordValue}
use Rattle.ix_unit.specs.declared.value.RecordDep.{RecordDep}
use Rattle.ix_unit.specs.declared.value.UnitValue.{UnitValue}
use Rattle.ix_unit.specs.declared.batch.UnitPut.{UnitPut}
use Rattle.ix_model.specs.Units.{Units, unit_named}
use Rattle.ix_answers.specs.Meanings.{IsRecord}

-- the unit of a name, without the values of its records
abbrev pub unit_of : List ℕ → Units → Option UnitValue
unit_of name units = option_map (λ stored. stored.unit) (unit_named name units)

-- a name that is neither put nor gone
pub record IsUntouched (puts : List UnitPut) (gone : List (List ℕ)) (name : List ℕ) : Type 0 where
  pub not_put : (put : UnitPut) → Contains puts put → put.name ≢ name
  pub not_gone : Contains gone name → ⊥

-- the units that are put and the names that are gone lead from a map to another: each name that is put has that unit, each that is
-- gone has none, and every other name has the unit that it had
pub record LeadsTo (puts : List UnitPut) (gone : List (List ℕ)) (before after : Units) : Type 0 where
  pub come : (put : UnitPut) → Contains puts put → unit_of put.name after ≡ Some put.unit.value
  pub go : (name : List ℕ) → Contains gone name → unit_of name after ≡ None
  pub stay : (name : List ℕ) → IsUntouched puts gone name → unit_of name after ≡ unit_of name before

-- each record name has one value over two maps together
abbrev pub HaveOneValue : Units → Units → Type 0
HaveOneValue before after =
    (first second : RecordDep) (value other : RecordValue) → IsRecord (before ++ after) first value → IsRecord (before ++ after) second other
    → first.name ≡ second.name → value ≡ other
