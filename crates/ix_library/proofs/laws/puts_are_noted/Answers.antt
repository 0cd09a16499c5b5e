use Rattle.ix_library.proofs.Noted.{noted_now, noted_still, each_noted, leased_where_put}
use Rattle.ix_library.proofs.laws.puts_are_noted.Goals as goal

pub returns-clause-noted : goal.returns-clause-noted
returns-clause-noted c = noted_now

pub returns-clause-stays : goal.returns-clause-stays
returns-clause-stays c = noted_still

pub returns-clause-each : goal.returns-clause-each
returns-clause-each c = each_noted

pub returns-clause-leased : goal.returns-clause-leased
returns-clause-leased c = leased_where_put
