use Rattle.std.proofs.Common.{◌≡◌, ◌++◌, map, take}
use Rattle.std.specs.List.{flat_map}
use Rattle.ix_unit.specs.declared.value.UnitValue.{UnitValue}
use Rattle.ix_tables.specs.Items.{item_of}
use Rattle.ix_tables.proofs.moves.append_names.Given as goal

abbrev pub invariant-loop-unit : goal.invariant-loop-unit
invariant-loop-unit l = l.names.items ≡ l.initial.names.items ++ flat_map (λ item. map (λ dep. dep.name) (item_of {T = UnitValue} item).1.records) (take l.unit-index l.units)
