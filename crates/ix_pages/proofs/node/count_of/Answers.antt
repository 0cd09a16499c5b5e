use Rattle.std.proofs.Common.{◌+◌, drop, length}
use Rattle.ix_pages.specs.Paging.{pairs_of}
use Rattle.ix_pages.specs.Tree.{pages_of}
use Rattle.ix_pages.proofs.Forks.{next_item, counted_on}
use Rattle.ix_pages.proofs.node.count_of.Goals as goal

pub loop-child-preserved : goal.loop-child-preserved
loop-child-preserved g c =
    let i = c.loop-child.child-index in
    counted_on g.T.Part.pages g.T.Part.whole (drop i c.args.children.now) (drop (i + 1) c.args.children.now) c.child-item.result c.loop-child.count.pages c.in_ok-count.count.pages c.loop-child.count.pairs c.in_ok-count.count.pairs
    (length (pages_of g.T.Part.pages c.args.children.now)) (length (pairs_of (pages_of g.T.Part.pages c.args.children.now))) c.loop-child.invariant
    (next_item c.args.children.now i c.child-item.result c.loop-child-test.true c.child-item.is) c.in_ok-count.ensures.pages c.in_ok-count.ensures.pairs
