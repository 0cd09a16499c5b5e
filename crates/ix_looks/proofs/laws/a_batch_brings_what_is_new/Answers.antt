use Rattle.ix_looks.proofs.Brought.{brought, needed_since}
use Rattle.ix_looks.proofs.laws.a_batch_brings_what_is_new.Goals as goal

pub returns-clause-brought : goal.returns-clause-brought
returns-clause-brought c puts gone before after name leads is = brought c.given.ensures puts gone before after leads name is

pub returns-clause-needed : goal.returns-clause-needed
returns-clause-needed c puts gone before after name leads rises needed = needed_since c.given.ensures puts gone before after leads rises name needed
