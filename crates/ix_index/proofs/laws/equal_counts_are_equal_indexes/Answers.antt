use Rattle.ix_index.proofs.Canon.{equal_indexes}
use Rattle.ix_index.proofs.laws.equal_counts_are_equal_indexes.Goals as goal

pub returns : goal.returns
returns g c = equal_indexes g.met.K.Ord.total g.met.V.Ord.total g.met.K.Item.exact g.met.V.Item.exact
