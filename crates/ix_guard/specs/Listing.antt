-- The need list of some units.
use Rattle.std.specs.Prelude.{◌≡◌, ℕ, List, [], map}
use Rattle.std.specs.List.{flat_map}
use Rattle.ix_unit.specs.declared.value.UnitValue.{UnitValue}
use Rattle.ix_unit.specs.declared.batch.UnitPut.{UnitPut}
use Rattle.ix_model.specs.Units.{Units, needs}
use Rattle.ix_guard.specs.Counts.{Counts, count_at, times, AreCounts}

-- the names of a unit's record dependencies, as often as they are listed
abbrev pub names_in : UnitValue → List (List ℕ)
names_in unit = map (λ dep. dep.name) unit.records

-- the same of all units
abbrev pub names_in_all : Units → List (List ℕ)
names_in_all units = flat_map (λ entry. map (λ dep. dep.name) entry.1.unit.records) units

-- the units that were put, by name, with no values
abbrev pub units_put : List UnitPut → Units
units_put puts = map (λ put. (put.name, record { unit = put.unit.value; values = [] })) puts

-- the names that the units need, rising, each with the number of record dependencies that have it
unfoldable pub need_list_of : Units → Counts
need_list_of units = map (λ name. (name, times name (names_in_all units))) (needs units)

-- for each name of a record how many record dependencies of the units have it
pub record IsNeedListOf (counts : Counts) (units : Units) : Type 0 where
  pub sound : AreCounts counts
  pub each : (name : List ℕ) → count_at counts name ≡ times name (names_in_all units)
