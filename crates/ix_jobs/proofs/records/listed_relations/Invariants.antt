use Rattle.std.proofs.Common.{◌≡◌, map, take}
use Rattle.ix_jobs.specs.Made.{relation_of}
use Rattle.ix_jobs.proofs.records.listed_relations.Given as goal

abbrev pub invariant-loop-plan : goal.invariant-loop-plan
invariant-loop-plan l = l.relations.items ≡ map (relation_of l.symbols) (take l.plan-index l.plans)
