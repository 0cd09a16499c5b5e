use Rattle.ix_jobs.proofs.Orders.{text_exact}
use Rattle.ix_jobs.proofs.units.set_of_texts.Goals as goal

pub sorted-requires : goal.sorted-requires
sorted-requires c = record { exact = text_exact }
