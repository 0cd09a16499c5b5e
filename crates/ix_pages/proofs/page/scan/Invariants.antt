use Rattle.std.proofs.Common.{◌≡◌, map, drop}
use Rattle.ix_pages.specs.Pairs.{IsRising, look_up}
use Rattle.ix_pages.specs.Tree.{pair_of}
use Rattle.ix_pages.proofs.page.scan.Given as goal

abbrev pub invariant-loop-entry : goal.invariant-loop-entry
invariant-loop-entry g l =
    IsRising g.K.Ord.cmp (map pair_of (drop l.entry-index l.entries))
    × (look_up g.K.Ord.cmp (map pair_of (drop l.entry-index l.entries)) l.fn.key ≡ look_up g.K.Ord.cmp (map pair_of l.fn.entries) l.fn.key)
