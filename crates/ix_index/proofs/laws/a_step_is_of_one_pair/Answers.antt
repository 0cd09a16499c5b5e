use Rattle.std.proofs.Common.{refl}
use Rattle.ix_index.proofs.Singles.{a_gain, a_loss, another}
use Rattle.ix_index.proofs.laws.a_step_is_of_one_pair.Goals as goal

pub returns : goal.returns
returns g c = record {
  none = λ key value. (refl, refl);
  gain = a_gain g.met.K.Ord.total g.met.V.Ord.total g.met.K.Item.exact g.met.V.Item.exact;
  loss = a_loss g.met.K.Ord.total g.met.V.Ord.total g.met.K.Item.exact g.met.V.Item.exact;
  others = another g.met.K.Ord.total g.met.V.Ord.total g.met.K.Item.exact g.met.V.Item.exact;
}
