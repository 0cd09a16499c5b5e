use Rattle.std.proofs.Common.{[]}
use Rattle.ix_model.specs.Rows.{relation_row}
use Rattle.ix_model.proofs.Door.{one_more}
use Rattle.ix_query.proofs.rows.relation_rows.Goals as goal

pub loop-relation-preserved : goal.loop-relation-preserved
loop-relation-preserved c =
    one_more (relation_row c.args.symbols.now) c.args.relations.now c.loop-relation.relation-index c.relation-item.result c.loop-relation-test.true c.relation-item.is [] c.loop-relation.rows.items c.append_some.new.out.items c.in_ok-relation_row.field-0 c.in_ok-relation_row.ensures c.loop-relation.invariant c.in_ok-append_some.ensures
