use Rattle.ix_jobs.proofs.Orders.{record_dep_exact}
use Rattle.ix_jobs.proofs.units.set_of_records.Goals as goal

pub sorted-requires : goal.sorted-requires
sorted-requires c = record { exact = record_dep_exact }
