use Rattle.std.proofs.Common.{◌≡◌, None, replicate}
use Rattle.ix_ledger.proofs.register.no_holds.Given as goal

abbrev pub invariant-loop-lane : goal.invariant-loop-lane
invariant-loop-lane l = l.all.items ≡ replicate l._lane None
