use Rattle.std.proofs.Common.{refl}
use Rattle.ix_machine.specs.Needs.{is_needed}
use Rattle.ix_machine.proofs.worked.collects_spare_what_is_needed.Goals as goal

pub returns-clause-leased : goal.returns-clause-leased
unfolding is_needed
returns-clause-leased c = refl

pub returns-clause-held : goal.returns-clause-held
unfolding is_needed
returns-clause-held c = refl

pub returns-clause-imported : goal.returns-clause-imported
unfolding is_needed
returns-clause-imported c = refl

pub returns-clause-pending : goal.returns-clause-pending
unfolding is_needed
returns-clause-pending c = refl

pub returns-clause-published : goal.returns-clause-published
unfolding is_needed
returns-clause-published c = refl

pub returns-clause-twice : goal.returns-clause-twice
unfolding is_needed
returns-clause-twice c = refl

pub returns-clause-installed : goal.returns-clause-installed
unfolding is_needed
returns-clause-installed c = refl

pub returns-clause-found : goal.returns-clause-found
unfolding is_needed
returns-clause-found c = refl

pub returns-clause-leased_alone : goal.returns-clause-leased_alone
unfolding is_needed
returns-clause-leased_alone c = refl

pub returns-clause-two_records : goal.returns-clause-two_records
unfolding is_needed
returns-clause-two_records c = refl
