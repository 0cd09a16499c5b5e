use Rattle.std.proofs.Common.{◌≡◌, ◌-◌, None}
use Rattle.ix_wire.specs.Grammar.{items_at}
use Rattle.ix_wire.proofs.Door.{still}
use Rattle.ix_unit.specs.declared.fault.UnitError.TheVariants.{OutOfOrder}
use Rattle.ix_unit.specs.Order.{dependency_cmp}
use Rattle.ix_unit.specs.Reading.{dependency_at}
use Rattle.ix_unit.proofs.reading.read_dependencies.Given as goal

abbrev pub invariant-loop : goal.invariant-loop
invariant-loop l = still OutOfOrder dependency_at dependency_cmp l.dependencies.items (l.count - l.counter) l.cursor ≡ items_at OutOfOrder dependency_at dependency_cmp l.count None l.fn.cursor
