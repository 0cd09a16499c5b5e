use Rattle.std.proofs.Common.{refl}
use Rattle.ix_model.proofs.Publications.{last_put, last_gone, last_apart, units_at-rise, units_at-past, units_at-prefix}
use Rattle.ix_model.proofs.laws.the_latest_publication_stands.Goals as goal

pub returns-clause-put : goal.returns-clause-put
returns-clause-put c = last_put

pub returns-clause-gone : goal.returns-clause-gone
returns-clause-gone c = last_gone

pub returns-clause-others : goal.returns-clause-others
returns-clause-others c = last_apart

pub returns-clause-rises : goal.returns-clause-rises
returns-clause-rises c = units_at-rise

pub returns-clause-none : goal.returns-clause-none
returns-clause-none c = λ publications. refl

pub returns-clause-past : goal.returns-clause-past
returns-clause-past c = units_at-past

pub returns-clause-prefix : goal.returns-clause-prefix
returns-clause-prefix c = units_at-prefix
