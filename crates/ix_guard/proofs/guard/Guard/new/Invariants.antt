use Rattle.std.proofs.Common.{◌≡◌, None, replicate}
use Rattle.ix_guard.proofs.guard.Guard.new.Given as goal

abbrev pub invariant-loop-lane : goal.invariant-loop-lane
invariant-loop-lane l = record {
  leases : l.leases.items ≡ replicate l._lane None;
  held : l.held.items ≡ replicate l._lane None;
}
