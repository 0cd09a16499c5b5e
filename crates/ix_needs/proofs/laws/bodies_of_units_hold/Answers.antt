use Rattle.ix_needs.proofs.Loading.{holds_nothing, holds_one_more}
use Rattle.ix_needs.proofs.laws.bodies_of_units_hold.Goals as goal

pub returns : goal.returns
returns c = record {
  none = holds_nothing;
  one = holds_one_more;
  asked = λ query units bodies. let those = c.the_next_need_is_that.ensures.none query units _ in (those.1, those.0);
}
