use Rattle.std.proofs.Common.{◌∙◌, ap, map, List}
use Rattle.ix_jobs.specs.declared.job.NamedBytes.{NamedBytes}
use Rattle.ix_jobs.specs.Named.{as_body}
use Rattle.ix_jobs.proofs.Written.{bodies_are, files_exact}
use Rattle.ix_jobs.proofs.job.set_of_files.Goals as goal

pub sorted-requires : goal.sorted-requires
sorted-requires c = record { exact = files_exact }

pub returns : goal.returns
returns c = ap (λ (files : List NamedBytes). map as_body files) c.sorted.ensures ∙ bodies_are c.args.files.items
