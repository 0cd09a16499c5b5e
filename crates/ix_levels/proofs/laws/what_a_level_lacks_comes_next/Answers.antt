use Rattle.ix_levels.proofs.Further.{some-next, none-next}
use Rattle.ix_levels.proofs.laws.what_a_level_lacks_comes_next.Goals as goal

pub returns-clause-some : goal.returns-clause-some
returns-clause-some c query units bodies trail name o e = some-next query units bodies trail o c.the_next_need_is_that.ensures.first name e

pub returns-clause-none : goal.returns-clause-none
returns-clause-none c query units bodies trail o e done = none-next query units bodies trail o c.the_next_need_is_that.ensures.none done
