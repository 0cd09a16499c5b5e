use Rattle.std.proofs.Common.{◌≡◌, ◌-◌, None}
use Rattle.ix_wire.specs.Grammar.{items_at}
use Rattle.ix_wire.proofs.Door.{still}
use Rattle.ix_record.specs.declared.fault.RecordError.TheVariants.{OutOfOrder}
use Rattle.ix_record.specs.Order.{relation_cmp}
use Rattle.ix_record.specs.Reading.{relation_at}
use Rattle.ix_record.proofs.reading.read_relations.Given as goal

abbrev pub invariant-loop : goal.invariant-loop
invariant-loop l = still OutOfOrder (relation_at l.symbols) relation_cmp l.relations.items (l.count - l.counter) l.cursor ≡ items_at OutOfOrder (relation_at l.symbols) relation_cmp l.count None l.fn.cursor
