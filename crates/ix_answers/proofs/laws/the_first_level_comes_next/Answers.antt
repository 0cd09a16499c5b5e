use Rattle.ix_answers.specs.declared.walks.Walk.TheVariants.{Incoming, Outgoing, Supertypes, Subtypes}
use Rattle.ix_answers.proofs.NextNeed.{next-of-level}
use Rattle.ix_answers.proofs.laws.the_first_level_comes_next.Goals as goal

pub returns-clause-incoming : goal.returns-clause-incoming
returns-clause-incoming c = next-of-level Incoming

pub returns-clause-outgoing : goal.returns-clause-outgoing
returns-clause-outgoing c = next-of-level Outgoing

pub returns-clause-supertypes : goal.returns-clause-supertypes
returns-clause-supertypes c = next-of-level Supertypes

pub returns-clause-subtypes : goal.returns-clause-subtypes
returns-clause-subtypes c = next-of-level Subtypes
