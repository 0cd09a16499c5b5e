use Rattle.std.proofs.Common.{subst, sym}
use Rattle.ix_record.specs.declared.value.RecordValue.{RecordValue}
use Rattle.ix_record.specs.Value.{IsValidRecord}
use Rattle.ix_jobs.proofs.Valid.{valid_record}
use Rattle.ix_jobs.proofs.job.file_bytes.Goals as goal

pub encode-requires : goal.encode-requires
encode-requires c = subst (λ (v : RecordValue). IsValidRecord v) (sym c.in_ok-value.ensures) (valid_record c.args.plan.now c.requires.rules c.requires.room)
