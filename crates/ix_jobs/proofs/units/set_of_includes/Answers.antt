use Rattle.ix_jobs.proofs.Orders.{include_exact}
use Rattle.ix_jobs.proofs.units.set_of_includes.Goals as goal

pub sorted-requires : goal.sorted-requires
sorted-requires c = record { exact = include_exact }
