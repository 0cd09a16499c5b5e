use Rattle.ix_index.proofs.Canon.{values_rise, values_each}
use Rattle.ix_index.proofs.laws.values_are_what_has_a_count.Goals as goal

pub returns : goal.returns
returns g c = record {
  rise = values_rise g.met.K.Ord.total g.met.V.Ord.total g.met.K.Item.exact g.met.V.Item.exact;
  each = values_each g.met.K.Ord.total g.met.V.Ord.total g.met.K.Item.exact g.met.V.Item.exact;
}
