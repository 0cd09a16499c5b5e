use Rattle.std.proofs.Common.{◌≡◌, ◌+◌, drop, length}
use Rattle.ix_pages.specs.Paging.{pairs_of}
use Rattle.ix_pages.specs.Tree.{pages_of, AreChildren}
use Rattle.ix_pages.proofs.node.count_of.Given as goal

abbrev pub invariant-loop-child : goal.invariant-loop-child
invariant-loop-child g l =
    AreChildren g.T.Part.pages g.T.Part.whole (drop l.child-index l.children)
    × (l.count.pages + length (pages_of g.T.Part.pages (drop l.child-index l.children)) ≡ length (pages_of g.T.Part.pages l.fn.children))
    × (l.count.pairs + length (pairs_of (pages_of g.T.Part.pages (drop l.child-index l.children))) ≡ length (pairs_of (pages_of g.T.Part.pages l.fn.children)))
