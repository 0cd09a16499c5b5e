use Rattle.ix_pages.proofs.Paged.{pairs_of_with, pairs_of_without}
use Rattle.ix_pages.proofs.OneGo.{pairs_of_changed}
use Rattle.ix_pages.proofs.laws.pages_are_the_pairs.Goals as goal

pub returns : goal.returns
returns g c = record { with = pairs_of_with g.met.K.Ord.total; without = pairs_of_without g.met.K.Ord.total; all = pairs_of_changed g.met.K.Ord.total }
