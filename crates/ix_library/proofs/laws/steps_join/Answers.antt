use Rattle.ix_library.proofs.Growing.{step_grows, joined}
use Rattle.ix_library.proofs.laws.steps_join.Goals as goal

pub returns-clause-grows : goal.returns-clause-grows
returns-clause-grows c name_of s lane given flag stepped is = step_grows s lane name_of given flag stepped is

pub returns-clause-leaves : goal.returns-clause-leaves
returns-clause-leaves c = joined c.steps_join.ensures
