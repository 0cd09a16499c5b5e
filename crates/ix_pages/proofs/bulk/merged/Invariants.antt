use Rattle.std.proofs.Common.{◌≡◌, ◌++◌, map, drop}
use Rattle.ix_pages.specs.Pairs.{IsRising}
use Rattle.ix_pages.specs.Changes.{changed}
use Rattle.ix_pages.specs.Tree.{pair_of}
use Rattle.ix_pages.specs.Edits.{change_of}
use Rattle.ix_pages.proofs.bulk.merged.Given as goal

abbrev pub invariant-loop-edit : goal.invariant-loop-edit
invariant-loop-edit g l =
    IsRising g.K.Ord.cmp (map pair_of l.rest)
    × (map pair_of l.page.items ++ changed g.K.Ord.cmp (map pair_of l.rest) (map change_of (drop l.edit-index l.edits)) ≡ changed g.K.Ord.cmp (map pair_of l.fn.entries) (map change_of l.fn.edits))
