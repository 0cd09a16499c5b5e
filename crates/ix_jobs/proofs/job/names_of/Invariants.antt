use Rattle.std.proofs.Common.{◌≡◌, map, take}
use Rattle.ix_jobs.specs.Named.{as_body}
use Rattle.ix_jobs.proofs.job.names_of.Given as goal

abbrev pub invariant-loop-file : goal.invariant-loop-file
invariant-loop-file l = l.names.items ≡ map (λ body. body.name) (map as_body (take l.file-index l.files))
