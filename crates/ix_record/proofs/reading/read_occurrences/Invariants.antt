use Rattle.std.proofs.Common.{◌≡◌, ◌-◌, None}
use Rattle.ix_wire.specs.Grammar.{items_at}
use Rattle.ix_wire.proofs.Door.{still}
use Rattle.ix_record.specs.declared.fault.RecordError.TheVariants.{OutOfOrder}
use Rattle.ix_record.specs.Order.{occurrence_cmp}
use Rattle.ix_record.specs.Reading.{occurrence_at}
use Rattle.ix_record.proofs.reading.read_occurrences.Given as goal

abbrev pub invariant-loop : goal.invariant-loop
invariant-loop l = still OutOfOrder (occurrence_at l.symbols) occurrence_cmp l.occurrences.items (l.count - l.counter) l.cursor ≡ items_at OutOfOrder (occurrence_at l.symbols) occurrence_cmp l.count None l.fn.cursor
