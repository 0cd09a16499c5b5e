use Rattle.std.proofs.Common.{◌≡◌, ◌+◌, ◌∙◌, sym, ap, subst, drop, false}
use Rattle.std.specs.Ordering.{is_lt}
use Rattle.ix_pages.specs.Pairs.{is_before}
use Rattle.ix_pages.specs.Tree.{leasts, HaveHeads}
use Rattle.ix_pages.proofs.Forks.{next_item, passed_on}
use Rattle.ix_pages.proofs.node.count_in_front.Goals as goal

pub loop-child-preserved : goal.loop-child-preserved
loop-child-preserved g c =
    let i = c.loop-child.child-index in
    let next = next_item c.args.children.now i c.child-item.result c.loop-child-test.true c.child-item.is in
    let heads = subst (HaveHeads g.K.Key.head_of c.args.base.now c.args.skip) next c.loop-child.invariant.2 in
    let behind : is_lt (g.K.Ord.cmp c.args.key.now c.child-item.result.least.value.key) ≡ false = sym (c.is_less.ensures c.args.base.now c.args.skip c.head-head.ensures heads.0) ∙ c.if-is_less.false in (
      ap (λ n. n + 1) c.loop-child.invariant.0,
      passed_on g.K.Ord.cmp c.args.key.now c.args.children.now i c.child-item.result c.loop-child-test.true c.child-item.is behind c.loop-child.invariant.1,
      heads.1,
    )

pub returns-then-is_less-clause-rest : goal.returns-then-is_less-clause-rest
returns-then-is_less-clause-rest g c =
    let next = next_item c.args.children.now c.loop-child.child-index c.child-item.result c.loop-child-test.true c.child-item.is in
    let heads = subst (HaveHeads g.K.Key.head_of c.args.base.now c.args.skip) next c.loop-child.invariant.2 in
    ap (λ n. is_before g.K.Ord.cmp c.args.key.now (leasts (drop n c.args.children.now))) c.loop-child.invariant.0
    ∙ ap (λ cs. is_before g.K.Ord.cmp c.args.key.now (leasts cs)) next
    ∙ sym (c.is_less.ensures c.args.base.now c.args.skip c.head-head.ensures heads.0)
    ∙ c.if-is_less.true
