use Rattle.std.proofs.Common.{◌≡◌, map, take}
use Rattle.ix_jobs.specs.Made.{symbol_of}
use Rattle.ix_jobs.proofs.records.listed_symbols.Given as goal

abbrev pub invariant-loop-plan : goal.invariant-loop-plan
invariant-loop-plan l = l.symbols.items ≡ map symbol_of (take l.plan-index l.plans)
