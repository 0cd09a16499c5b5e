use Rattle.std.proofs.Common.{◌≡◌}
use Rattle.ix_model.specs.SortedSet.{sorted_set}
use Rattle.ix_model.proofs.sorted.sorted_set.Given as goal

-- the set of the items so far
abbrev pub invariant-loop-item : goal.invariant-loop-item
invariant-loop-item g l = l.set.items ≡ sorted_set g.O.Order.cmp l.yielded
