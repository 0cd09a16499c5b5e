use Rattle.std.proofs.Common.{◌≡◌}
use Rattle.ix_types.specs.Row.{text_cmp}
use Rattle.ix_model.specs.SortedSet.{sorted_set}
use Rattle.ix_outline.proofs.outline.rising.Given as goal

abbrev pub invariant-loop-text : goal.invariant-loop-text
invariant-loop-text l = l.set.keys ≡ sorted_set text_cmp l.yielded
