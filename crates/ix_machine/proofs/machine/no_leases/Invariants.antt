use Rattle.std.proofs.Common.{◌≡◌, replicate, None}
use Rattle.ix_machine.proofs.machine.no_leases.Given as goal

abbrev pub invariant-loop-lane : goal.invariant-loop-lane
invariant-loop-lane l = l.all.items ≡ replicate l.lane None
