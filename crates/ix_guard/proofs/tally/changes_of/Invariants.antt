use Rattle.std.proofs.Common.{◌≡◌, map}
use Rattle.std.specs.Map.Iter.{deref_pair}
use Rattle.ix_guard.specs.Tallied.{puts_of}
use Rattle.ix_guard.proofs.tally.changes_of.Given as goal

-- those so far
abbrev pub invariant-loop-name : goal.invariant-loop-name
invariant-loop-name l = l.changes.items ≡ puts_of (map deref_pair l.yielded)
