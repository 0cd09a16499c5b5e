-- A record file as the job keeps it while it sorts.
use Rattle.ix_record.specs.declared.body.Body.{Body}
use Rattle.ix_jobs.specs.declared.job.NamedBytes.{NamedBytes}

abbrev pub as_body : NamedBytes → Body
as_body file = record { name = file.name; bytes = file.bytes }
