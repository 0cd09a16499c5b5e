use Rattle.ix_jobs.proofs.Orders.{occurrence_exact}
use Rattle.ix_jobs.proofs.records.record_of.Goals as goal

pub sorted-requires : goal.sorted-requires
sorted-requires c = record { exact = occurrence_exact }
