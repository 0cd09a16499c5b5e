use Rattle.ix_model.proofs.Door.{one_more}
use Rattle.ix_hierarchy.specs.Marks.{edge_found}
use Rattle.ix_hierarchy.proofs.edges.append_relations.Goals as goal

pub loop-relation-preserved : goal.loop-relation-preserved
loop-relation-preserved c =
    one_more (edge_found c.args.walk c.args.depth c.args.marks.now c.args.path.now c.args.symbols.now c.args.occurrence.now c.args.usr.now) c.as_slice-relation-items.result.now c.loop-relation.relation-index c.relation-item.result
    c.loop-relation-test.true c.relation-item.is c.args.out.now.items c.loop-relation.out.items c.append_some.new.out.items c.in_ok-found.found c.in_ok-found.ensures c.loop-relation.invariant c.in_ok-append_some.ensures
