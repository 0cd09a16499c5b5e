use Rattle.ix_answers.specs.Lookups.{providers}
use Rattle.ix_answers.specs.Needs.{need_of, level_needs}
use Rattle.ix_answers.proofs.Rising.{providers-rise, level-rises, none-lacking, least-lacking, first-level}
use Rattle.ix_answers.proofs.laws.the_next_need_is_that.Goals as goal

pub returns-clause-none : goal.returns-clause-none
returns-clause-none c = λ query units loaded. none-lacking loaded (need_of query units)

pub returns-clause-least : goal.returns-clause-least
returns-clause-least c = λ walk usr units loaded n name e. least-lacking loaded (level_needs walk usr units n) (level-rises walk usr units n) name e

pub returns-clause-first : goal.returns-clause-first
returns-clause-first c = λ walk usr units loaded n depth name b f e. first-level loaded walk usr units n depth b f name e

pub returns-clause-plain : goal.returns-clause-plain
returns-clause-plain c = λ usr units loaded name e. least-lacking loaded (providers usr units) (providers-rise units usr) name e
