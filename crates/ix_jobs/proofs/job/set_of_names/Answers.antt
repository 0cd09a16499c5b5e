use Rattle.ix_jobs.proofs.Orders.{text_exact}
use Rattle.ix_jobs.proofs.job.set_of_names.Goals as goal

pub sorted-requires : goal.sorted-requires
sorted-requires c = record { exact = text_exact }
