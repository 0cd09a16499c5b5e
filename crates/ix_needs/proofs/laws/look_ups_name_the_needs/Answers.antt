use Rattle.ix_needs.proofs.Answered.{needs-those}
use Rattle.ix_needs.proofs.laws.look_ups_name_the_needs.Goals as goal

pub returns : goal.returns
returns c query units plain = needs-those c.answers_are_sorted_sets.ensures.texts c.the_sorted_set_is_one.ensures.texts units query plain
