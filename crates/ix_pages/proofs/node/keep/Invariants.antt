use Rattle.std.proofs.Common.{◌≡◌, ◌++◌, drop}
use Rattle.ix_pages.specs.Tree.{pages_of, AreKept}
use Rattle.ix_pages.proofs.node.keep.Given as goal

abbrev pub invariant-loop-child : goal.invariant-loop-child
invariant-loop-child g l =
    AreKept g.T.Part.pages g.T.Part.whole g.K.Key.head_of l.base l.skip l.made.items
    × AreKept g.T.Part.pages g.T.Part.whole g.K.Key.head_of l.base l.skip (drop l.child-index l.children)
    × (pages_of g.T.Part.pages l.made.items ++ pages_of g.T.Part.pages (drop l.child-index l.children) ≡ pages_of g.T.Part.pages l.fn.made.items ++ pages_of g.T.Part.pages l.fn.children)
