use Rattle.std.proofs.Common.{◌≡◌, ◌-◌, None}
use Rattle.ix_wire.specs.Grammar.{items_at}
use Rattle.ix_wire.proofs.Door.{still}
use Rattle.ix_unit.specs.declared.fault.UnitError.TheVariants.{OutOfOrder}
use Rattle.ix_unit.specs.Order.{include_cmp}
use Rattle.ix_unit.specs.Reading.{include_at}
use Rattle.ix_unit.proofs.reading.read_includes.Given as goal

abbrev pub invariant-loop : goal.invariant-loop
invariant-loop l = still OutOfOrder include_at include_cmp l.includes.items (l.count - l.counter) l.cursor ≡ items_at OutOfOrder include_at include_cmp l.count None l.fn.cursor
