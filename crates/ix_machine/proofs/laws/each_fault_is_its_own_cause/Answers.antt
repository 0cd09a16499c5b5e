use Rattle.std.proofs.Common.{refl}
use Rattle.ix_machine.proofs.laws.each_fault_is_its_own_cause.Goals as goal

pub returns-clause-magic : goal.returns-clause-magic
returns-clause-magic c = refl

pub returns-clause-short : goal.returns-clause-short
returns-clause-short c = refl

pub returns-clause-field : goal.returns-clause-field
returns-clause-field c = λ at. refl

pub returns-clause-order : goal.returns-clause-order
returns-clause-order c = λ at. refl

pub returns-clause-trailing : goal.returns-clause-trailing
returns-clause-trailing c = λ at. refl

pub returns-clause-digest : goal.returns-clause-digest
returns-clause-digest c = refl
