use Rattle.std.proofs.Common.{◌≡◌, take}
use Rattle.std.specs.Map.{keys_of}
use Rattle.ix_ledger.specs.Fresh.{fresh_of}
use Rattle.ix_ledger.proofs.fresh.lacking.Given as goal

-- those of the units so far
abbrev pub invariant-loop-put : goal.invariant-loop-put
invariant-loop-put l = keys_of l.names.entries ≡ fresh_of l.needs (take l.put-index l.puts)
