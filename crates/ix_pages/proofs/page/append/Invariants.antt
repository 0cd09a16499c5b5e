use Rattle.std.proofs.Common.{◌≡◌, ◌++◌, map, take}
use Rattle.ix_pages.specs.Tree.{pair_of}
use Rattle.ix_pages.proofs.page.append.Given as goal

abbrev pub invariant-loop-entry : goal.invariant-loop-entry
invariant-loop-entry g l = map pair_of l.list.items ≡ map pair_of l.fn.list.items ++ map pair_of (take l.entry-index l.entries)
