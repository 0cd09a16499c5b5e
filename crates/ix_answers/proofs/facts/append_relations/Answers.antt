use Rattle.ix_model.proofs.Door.{one_more}
use Rattle.ix_answers.specs.Facts.{related_symbol}
use Rattle.ix_answers.proofs.facts.append_relations.Goals as goal

pub loop-relation-preserved : goal.loop-relation-preserved
loop-relation-preserved c =
    one_more (related_symbol c.args.name.now c.args.symbols.now) c.args.relations.now c.loop-relation.relation-index c.relation-item.result c.loop-relation-test.true c.relation-item.is c.args.out.now.items c.loop-relation.out.items c.append_some.new.out.items c.in_ok-related_symbol.field-0 c.in_ok-related_symbol.ensures c.loop-relation.invariant c.in_ok-append_some.ensures
