use Rattle.ix_answers.proofs.Places.{names-by-place, units-by-place}
use Rattle.ix_answers.proofs.laws.places_are_in_order.Goals as goal

pub returns-clause-names : goal.returns-clause-names
returns-clause-names c = names-by-place

pub returns-clause-units : goal.returns-clause-units
returns-clause-units c = units-by-place
