use Rattle.ix_answers.proofs.Answered.{mains-rows, units-rows, included-rows, includers-rows}
use Rattle.ix_answers.proofs.laws.paths_and_units_are_those.Goals as goal

pub returns-clause-mains : goal.returns-clause-mains
returns-clause-mains c = mains-rows

pub returns-clause-units : goal.returns-clause-units
returns-clause-units c = units-rows

pub returns-clause-includes : goal.returns-clause-includes
returns-clause-includes c = included-rows

pub returns-clause-includers : goal.returns-clause-includers
returns-clause-includers c = includers-rows
