use Rattle.std.proofs.Common.{refl}
use Rattle.ix_model.specs.Rows.{occurrence_row}
use Rattle.ix_query.proofs.Grown.{chosen_more}
use Rattle.ix_query.proofs.rows.append_occurrences.Goals as goal

pub loop-occurrence-preserved : goal.loop-occurrence-preserved
loop-occurrence-preserved g c =
    chosen_more (occurrence_row c.args.path.now c.args.symbols.now) (g.C.Choice.passes c.args.key.now c.args.mask) c.args.occurrences.now c.loop-occurrence.occurrence-index c.occurrence-item.result
    c.loop-occurrence-test.true c.occurrence-item.is c.args.out.now.items c.loop-occurrence.out.items c.append_occurrence.new.out.items
    (occurrence_row c.args.path.now c.args.symbols.now c.occurrence-item.result) refl c.loop-occurrence.invariant c.in_ok-append_occurrence.ensures
