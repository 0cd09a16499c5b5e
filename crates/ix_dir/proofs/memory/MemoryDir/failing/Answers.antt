use Rattle.std.proofs.Common.{ap, subst, sym, arith, length}
use Rattle.ix_dir.specs.IndexInvariant.{Indexes, IsNumbered}
use Rattle.ix_dir.proofs.IndexStaysRight.{indexes_empty}
use Rattle.ix_dir.proofs.memory.MemoryDir.failing.Goals as goal

pub invariant_of-result : goal.invariant_of-result
invariant_of-result c = record {
  room = omega (arith, ap length c.new.ensures.items);
  index_room = omega arith;
  indexes = subst (λ moves. Indexes moves c.new-2.result) (sym c.new.ensures.items) (indexes_empty c.new-2.result c.new-2.ensures);
  numbered = subst (λ moves. IsNumbered 0 moves) (sym c.new.ensures.items) tt;
}
