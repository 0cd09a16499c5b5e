use Rattle.ix_model.specs.Rows.{occurrence_row}
use Rattle.ix_model.proofs.Door.{one_more}
use Rattle.ix_model.proofs.from_units.append_occurrences.Goals as goal

pub loop-occurrence-preserved : goal.loop-occurrence-preserved
loop-occurrence-preserved c =
    one_more (occurrence_row c.args.path.now c.args.symbols.now) c.args.occurrences.now c.loop-occurrence.occurrence-index c.occurrence-item.result c.loop-occurrence-test.true c.occurrence-item.is c.args.out.now.items c.loop-occurrence.out.items c.append_some.new.out.items c.in_ok-occurrence_row.field-0 c.in_ok-occurrence_row.ensures c.loop-occurrence.invariant c.in_ok-append_some.ensures
