use Rattle.std.proofs.Common.{◌≡◌, map, take}
use Rattle.ix_jobs.specs.Made.{include_of}
use Rattle.ix_jobs.proofs.units.includes.Given as goal

abbrev pub invariant-loop-plan : goal.invariant-loop-plan
invariant-loop-plan l = l.includes.items ≡ map include_of (take l.plan-index l.plans)
