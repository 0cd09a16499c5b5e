-- What a map of references to units stands for.
use Rattle.std.specs.Prelude.{ℕ, List, map}
use Rattle.std.specs.Borrow.{Bor}
use Rattle.std.specs.declared.sync.Arc.{Arc}
use Rattle.std.specs.declared.alloc.Global.{Global}
use Rattle.ix_unit.specs.declared.value.UnitValue.{UnitValue}
use Rattle.ix_machine.specs.Plain.{UnitMap}

abbrev pub shown : List (List ℕ × Bor (Arc UnitValue Global)) → UnitMap
shown entries = map (λ e. (e.0, e.1.now.value)) entries
