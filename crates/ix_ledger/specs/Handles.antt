-- Units behind handles.
use Rattle.std.specs.Prelude.{ℕ, List, map}
use Rattle.std.specs.declared.sync.Arc.{Arc}
use Rattle.std.specs.declared.alloc.Global.{Global}
use Rattle.ix_unit.specs.declared.value.UnitValue.{UnitValue}
use Rattle.ix_unit.specs.declared.batch.UnitPut.{UnitPut}
use Rattle.ix_pages.specs.declared.changes.Change.{Change}
use Rattle.ix_pages.specs.declared.changes.Change.TheVariants.{Put, Take}
use Rattle.ix_ledger.specs.Kept.{Named}

-- what the handles lead to
abbrev pub handed : List (List ℕ × Arc UnitValue Global) → Named
handed pairs = map (λ pair. (pair.0, pair.1.value)) pairs

-- the units that were put, by name
abbrev pub named_puts : List UnitPut → Named
named_puts puts = map (λ put. (put.name, put.unit.value)) puts

-- a change of handles as one of what they lead to
abbrev pub led_change : Change (List ℕ) (Arc UnitValue Global) → Change (List ℕ) UnitValue
led_change (Put name handle) = Put name handle.value
led_change (Take name) = Take name

abbrev pub led_changes : List (Change (List ℕ) (Arc UnitValue Global)) → List (Change (List ℕ) UnitValue)
led_changes changes = map led_change changes

-- the changes that put units
abbrev pub puts_led : List UnitPut → List (Change (List ℕ) UnitValue)
puts_led puts = map (λ put. Put put.name put.unit.value) puts
