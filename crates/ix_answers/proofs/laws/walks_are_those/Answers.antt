use Rattle.ix_answers.specs.declared.walks.Walk.TheVariants.{Incoming, Outgoing, Supertypes, Subtypes}
use Rattle.ix_answers.proofs.Answered.{walked-rows}
use Rattle.ix_answers.proofs.Steps.{callers_mirror_callees}
use Rattle.ix_answers.proofs.laws.walks_are_those.Goals as goal

pub returns-clause-incoming : goal.returns-clause-incoming
returns-clause-incoming c = walked-rows Incoming

pub returns-clause-outgoing : goal.returns-clause-outgoing
returns-clause-outgoing c = walked-rows Outgoing

pub returns-clause-supertypes : goal.returns-clause-supertypes
returns-clause-supertypes c = walked-rows Supertypes

pub returns-clause-subtypes : goal.returns-clause-subtypes
returns-clause-subtypes c = walked-rows Subtypes

pub returns-clause-mirror : goal.returns-clause-mirror
returns-clause-mirror c = callers_mirror_callees
