use Rattle.std.proofs.Common.{◌≡◌, ◌-◌, None}
use Rattle.ix_wire.specs.Grammar.{items_at}
use Rattle.ix_wire.proofs.Door.{still}
use Rattle.ix_record.specs.declared.fault.RecordError.TheVariants.{OutOfOrder}
use Rattle.ix_record.specs.Order.{symbol_cmp}
use Rattle.ix_record.specs.Reading.{symbol_at}
use Rattle.ix_record.proofs.reading.read_symbols.Given as goal

abbrev pub invariant-loop : goal.invariant-loop
invariant-loop l = still OutOfOrder (symbol_at l.format) symbol_cmp l.symbols.items (l.count - l.counter) l.cursor ≡ items_at OutOfOrder (symbol_at l.format) symbol_cmp l.count None l.fn.cursor
