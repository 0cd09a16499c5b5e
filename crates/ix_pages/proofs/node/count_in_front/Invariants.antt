use Rattle.std.proofs.Common.{◌≡◌, drop, take, false}
use Rattle.std.specs.List.{AllByRecursion}
use Rattle.std.specs.Ordering.{is_lt}
use Rattle.ix_pages.specs.Tree.{leasts, HaveHeads}
use Rattle.ix_pages.proofs.node.count_in_front.Given as goal

abbrev pub invariant-loop-child : goal.invariant-loop-child
invariant-loop-child g l =
    (l.count ≡ l.child-index)
    × AllByRecursion (λ pair. is_lt (g.K.Ord.cmp l.key pair.0) ≡ false) (leasts (take l.child-index l.children))
    × HaveHeads g.K.Key.head_of l.base l.skip (drop l.child-index l.children)
