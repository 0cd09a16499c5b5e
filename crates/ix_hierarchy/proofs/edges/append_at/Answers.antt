use Rattle.ix_model.specs.Rows.{occurrence_row}
use Rattle.ix_hierarchy.proofs.Grown.{edges_more}
use Rattle.ix_hierarchy.proofs.edges.append_at.Goals as goal

pub loop-occurrence-preserved : goal.loop-occurrence-preserved
loop-occurrence-preserved c level marked =
    edges_more c.args.walk c.args.depth level (occurrence_row c.args.path.now c.args.symbols.now) c.args.occurrences.now c.loop-occurrence.occurrence-index c.occurrence-item.result
    c.loop-occurrence-test.true c.occurrence-item.is c.args.out.now.items c.loop-occurrence.out.items c.append_occurrence.new.out.items (c.loop-occurrence.invariant level marked) (c.in_ok-append_occurrence.ensures level marked)
