use Rattle.ix_machine.proofs.Refusals.{refusal_leaves, unsynced_pends}
use Rattle.ix_machine.proofs.Failures.{failure_leaves, loss_leaves, damage_leaves}
use Rattle.ix_machine.proofs.laws.refusals_change_nothing_else.Goals as goal

pub returns-clause-refused : goal.returns-clause-refused
returns-clause-refused c = refusal_leaves

pub returns-clause-unsynced : goal.returns-clause-unsynced
returns-clause-unsynced c = unsynced_pends

pub returns-clause-failed : goal.returns-clause-failed
returns-clause-failed c = failure_leaves

pub returns-clause-lost : goal.returns-clause-lost
returns-clause-lost c = loss_leaves

pub returns-clause-damaged : goal.returns-clause-damaged
returns-clause-damaged c = damage_leaves
