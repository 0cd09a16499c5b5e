-- What tables remember of units and records, and of which units they are.
use Rattle.std.specs.Prelude.{◌≡◌, ℕ, ◌≤◌, List, [], length, map, Some, Contains}
use Rattle.ix_types.specs.Row.{text_cmp}
use Rattle.ix_record.specs.declared.value.RecordValue.{RecordValue}
use Rattle.ix_unit.specs.declared.value.RecordDep.{RecordDep}
use Rattle.ix_unit.specs.declared.value.UnitValue.{UnitValue}
use Rattle.ix_model.specs.declared.publication.StoredUnit.{StoredUnit}
use Rattle.ix_model.specs.Units.{Units}
use Rattle.ix_answers.specs.Meanings.{IsRecord}
use Rattle.ix_pages.specs.Pairs.{look_up}
use Rattle.ix_outline.specs.declared.outline.Outline.{Outline}
use Rattle.ix_outline.specs.Outline.{outline_of}

-- the units by name, and by name the outlines of the records that they list
pub record Known : Type 0 where
  pub units : List (List ℕ × UnitValue)
  pub outlines : List (List ℕ × Outline)

-- nothing is remembered
abbrev pub nothing_known : Known
nothing_known = record { units = []; outlines = [] }

-- a unit with its name, without the values of its records
abbrev pub bare : List ℕ × StoredUnit → List ℕ × UnitValue
bare entry = (entry.0, entry.1.unit)

-- a unit lists a record of the name
pub record Lists (units : List (List ℕ × UnitValue)) (name : List ℕ) : Type 0 where
  pub entry : List ℕ × UnitValue
  pub of_units : Contains units entry
  pub dep : RecordDep
  pub lists : Contains entry.1.records dep
  pub has_name : dep.name ≡ name

-- each record dependency of each unit has a value
abbrev pub HaveValues : Units → Type 0
HaveValues units = (entry : List ℕ × StoredUnit) → Contains units entry → length entry.1.unit.records ≤ length entry.1.values

-- what is remembered is what tables of these units remember: the units, and by name the outline of each record's value and no other
pub record AreTables (units : Units) (known : Known) : Type 0 where
  pub units_are : known.units ≡ map bare units
  pub whole : HaveValues units
  pub kept : (dep : RecordDep) (value : RecordValue) → IsRecord units dep value → look_up text_cmp known.outlines dep.name ≡ Some (outline_of value)
  pub only : (name : List ℕ) (outline : Outline) → look_up text_cmp known.outlines name ≡ Some outline → Lists known.units name
