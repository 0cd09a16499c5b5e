use Rattle.ix_guard.proofs.Loose.{least_said, said_least, none_said, said_none}
use Rattle.ix_guard.proofs.laws.the_first_loose_name_is_the_least.Goals as goal

pub returns-clause-some : goal.returns-clause-some
returns-clause-some c guard names name = (least_said guard names name, said_least guard names name)

pub returns-clause-none : goal.returns-clause-none
returns-clause-none c guard names = (none_said guard names, said_none guard names)
