use Rattle.ix_model.proofs.Definitions.{definitions-among, answer-among}
use Rattle.ix_model.proofs.laws.definitions_are_those.Goals as goal

pub returns-clause-selected : goal.returns-clause-selected
returns-clause-selected c = definitions-among

pub returns-clause-answered : goal.returns-clause-answered
returns-clause-answered c = answer-among
