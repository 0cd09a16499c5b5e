use Rattle.ix_jobs.proofs.Orders.{file_dep_exact}
use Rattle.ix_jobs.proofs.units.set_of_files.Goals as goal

pub sorted-requires : goal.sorted-requires
sorted-requires c = record { exact = file_dep_exact }
