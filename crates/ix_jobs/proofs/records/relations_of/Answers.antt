use Rattle.ix_jobs.proofs.Orders.{relation_exact}
use Rattle.ix_jobs.proofs.records.relations_of.Goals as goal

pub sorted-requires : goal.sorted-requires
sorted-requires c = record { exact = relation_exact }
