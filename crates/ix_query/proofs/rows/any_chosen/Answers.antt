use Rattle.ix_model.specs.Rows.{occurrence_row}
use Rattle.ix_query.proofs.Grown.{none_more}
use Rattle.ix_query.proofs.rows.any_chosen.Goals as goal

pub loop-occurrence-preserved : goal.loop-occurrence-preserved
loop-occurrence-preserved g c path =
    none_more (occurrence_row path c.args.symbols.now) (g.C.Choice.passes c.args.key.now c.args.mask) c.args.occurrences.now c.loop-occurrence.occurrence-index c.occurrence-item.result
    c.loop-occurrence-test.true c.occurrence-item.is (c.loop-occurrence.invariant path) (c.is_chosen.ensures c.if-is_chosen.false path)
