use Rattle.ix_index.proofs.Canon.{index_keys_rise, index_keys_each}
use Rattle.ix_index.proofs.laws.keys_are_what_has_a_value.Goals as goal

pub returns : goal.returns
returns g c = record {
  rise = index_keys_rise g.met.K.Ord.total g.met.V.Ord.total g.met.K.Item.exact g.met.V.Item.exact;
  each = index_keys_each g.met.K.Ord.total g.met.V.Ord.total g.met.K.Item.exact g.met.V.Item.exact;
}
