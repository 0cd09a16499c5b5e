use Rattle.ix_model.proofs.Door.{one_more}
use Rattle.ix_outline.specs.Outline.{related_usr}
use Rattle.ix_outline.proofs.outline.append_relations.Goals as goal

pub loop-relation-preserved : goal.loop-relation-preserved
loop-relation-preserved c =
    one_more (related_usr c.args.symbols.now) c.args.relations.now c.loop-relation.relation-index c.relation-item.result c.loop-relation-test.true c.relation-item.is c.args.usrs.now.items c.loop-relation.usrs.items c.append_some.new.out.items c.in_ok-related_usr.field-0 c.in_ok-related_usr.ensures c.loop-relation.invariant c.in_ok-append_some.ensures
