use Rattle.ix_levels.proofs.Named.{names-those}
use Rattle.ix_levels.proofs.laws.look_ups_name_the_levels.Goals as goal

pub returns : goal.returns
returns c = names-those c.answers_are_sorted_sets.ensures.texts c.the_sorted_set_is_one.ensures.texts
