use Rattle.std.proofs.Common.{◌≡◌, ◌++◌, map}
use Rattle.std.specs.List.{AllByRecursion}
use Rattle.ix_pages.specs.Paging.{pairs_of}
use Rattle.ix_index.specs.Recounting.{change_made, AreRecounts}
use Rattle.ix_index.proofs.revisions.add_changes.Given as goal

abbrev pub invariant-loop-revision : goal.invariant-loop-revision
invariant-loop-revision g l =
    AllByRecursion (λ revision. AreRecounts g.V.Ord.cmp revision.recounts) l.yielded → l.changes.items ≡ l.initial.changes.items ++ map (change_made g.K.Ord.cmp g.V.Ord.cmp (pairs_of l.pages)) l.yielded
