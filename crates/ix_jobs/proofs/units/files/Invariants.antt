use Rattle.std.proofs.Common.{◌≡◌, map, take}
use Rattle.ix_jobs.specs.Made.{file_of}
use Rattle.ix_jobs.proofs.units.files.Given as goal

abbrev pub invariant-loop-plan : goal.invariant-loop-plan
invariant-loop-plan l = l.files.items ≡ map file_of (take l.plan-index l.plans)
