use Rattle.ix_jobs.proofs.Planned.{joined_own, joined_theirs, no_other_roles}
use Rattle.ix_jobs.proofs.laws.roles_are_joined.Goals as goal

pub returns-clause-own : goal.returns-clause-own
returns-clause-own c roles relations = joined_own roles relations

pub returns-clause-theirs : goal.returns-clause-theirs
returns-clause-theirs c roles relations each there = joined_theirs roles relations each there

pub returns-clause-no_others : goal.returns-clause-no_others
returns-clause-no_others c roles relations bit is = no_other_roles roles relations bit is
