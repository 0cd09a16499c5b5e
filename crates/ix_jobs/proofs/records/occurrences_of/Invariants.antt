use Rattle.std.proofs.Common.{◌≡◌, map, take}
use Rattle.ix_jobs.specs.Made.{occurrence_of}
use Rattle.ix_jobs.proofs.records.occurrences_of.Given as goal

abbrev pub invariant-loop-plan : goal.invariant-loop-plan
invariant-loop-plan l = l.occurrences.items ≡ map (occurrence_of l.symbols) (take l.plan-index l.plans)
