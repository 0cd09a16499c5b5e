use Rattle.std.proofs.Common.{◌≡◌, take}
use Rattle.ix_guard.specs.Guarding.{lease_of_names}
use Rattle.ix_guard.proofs.lease.Lease.of.Given as goal

-- the names so far are leased
abbrev pub invariant-loop-name : goal.invariant-loop-name
invariant-loop-name l = l.put.entries ≡ lease_of_names (take l.name-index l.name-items)
