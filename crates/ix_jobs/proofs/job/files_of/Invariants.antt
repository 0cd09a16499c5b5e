use Rattle.std.proofs.Common.{◌≡◌, map, take}
use Rattle.std.specs.List.{AllByRecursion}
use Rattle.ix_types.specs.Name.{IsFileName}
use Rattle.ix_jobs.specs.Made.{dep_of, body_of, bytes_of}
use Rattle.ix_jobs.specs.Named.{as_body}
use Rattle.ix_jobs.proofs.job.files_of.Given as goal

abbrev pub invariant-loop-plan : goal.invariant-loop-plan
invariant-loop-plan g l =
    (l.deps.items ≡ map (dep_of g.N.Naming.name_of) (take l.plan-index l.plans))
    × (map as_body l.files.items ≡ map (body_of g.N.Naming.name_of) (take l.plan-index l.plans))
    × AllByRecursion (λ plan. IsFileName (g.N.Naming.name_of (bytes_of plan))) (take l.plan-index l.plans)
