use Rattle.std.proofs.Common.{arith}
use Rattle.ix_guard.proofs.Loose.{loose_step}
use Rattle.ix_guard.proofs.guard.Guard.first_loose.Goals as goal

pub loop-listed-preserved : goal.loop-listed-preserved
loop-listed-preserved c = loose_step c.args.self.now c.as_slice-listed-items.result.now c.loop-listed.listed-index c.listed-item.result (omega arith) c.listed-item.is c.loop-listed.first c.lesser-first.result c.lesser-first.ensures c.loop-listed.invariant
