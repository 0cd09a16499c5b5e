use Rattle.std.proofs.Common.{arith}
use Rattle.ix_guard.proofs.Leasing.{leased_more}
use Rattle.ix_guard.proofs.lease.Lease.of.Goals as goal

pub loop-name-preserved : goal.loop-name-preserved
loop-name-preserved c = leased_more c.as_slice-name-items.result.now c.loop-name.name-index c.name-item.result (omega arith) c.name-item.is c.loop-name.put.entries c.lease_one.new.put.entries c.loop-name.invariant c.in_ok-lease_one.ensures
