use Rattle.ix_model.proofs.Places.{ComesBehind}
use Rattle.ix_model.proofs.sorted.place_of.Given as goal

-- the item comes behind those that were passed
abbrev pub invariant-loop-i : goal.invariant-loop-i
invariant-loop-i g l = ComesBehind g.O.Order.cmp l.item l.set l.i
