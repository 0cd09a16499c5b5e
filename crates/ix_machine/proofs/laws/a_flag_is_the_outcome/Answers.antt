use Rattle.ix_machine.proofs.Flags.{flag_of_call, flag_is_outcome, each_flag, no_flag}
use Rattle.ix_machine.proofs.laws.a_flag_is_the_outcome.Goals as goal

pub returns-clause-only : goal.returns-clause-only
returns-clause-only c = flag_of_call

pub returns-clause-outcome : goal.returns-clause-outcome
returns-clause-outcome c = flag_is_outcome

pub returns-clause-each : goal.returns-clause-each
returns-clause-each c = each_flag

pub returns-clause-none : goal.returns-clause-none
returns-clause-none c = no_flag
