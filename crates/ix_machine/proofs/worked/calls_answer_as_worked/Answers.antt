use Rattle.std.proofs.Common.{refl}
use Rattle.ix_machine.specs.Needs.{is_needed}
use Rattle.ix_machine.proofs.worked.calls_answer_as_worked.Goals as goal

pub returns-clause-unsynced : goal.returns-clause-unsynced
unfolding is_needed
returns-clause-unsynced c = refl

pub returns-clause-removes : goal.returns-clause-removes
unfolding is_needed
returns-clause-removes c = refl

pub returns-clause-failed : goal.returns-clause-failed
unfolding is_needed
returns-clause-failed c = refl

pub returns-clause-unstaged : goal.returns-clause-unstaged
unfolding is_needed
returns-clause-unstaged c = refl

pub returns-clause-unopened : goal.returns-clause-unopened
unfolding is_needed
returns-clause-unopened c = refl

pub returns-clause-not_allowed : goal.returns-clause-not_allowed
unfolding is_needed
returns-clause-not_allowed c = refl

pub returns-clause-never_unsynced : goal.returns-clause-never_unsynced
unfolding is_needed
returns-clause-never_unsynced c = refl

pub returns-clause-over : goal.returns-clause-over
unfolding is_needed
returns-clause-over c = refl

pub returns-clause-another : goal.returns-clause-another
unfolding is_needed
returns-clause-another c = refl

pub returns-clause-shared : goal.returns-clause-shared
unfolding is_needed
returns-clause-shared c = refl

pub returns-clause-taken_over : goal.returns-clause-taken_over
unfolding is_needed
returns-clause-taken_over c = refl

pub returns-clause-other_name : goal.returns-clause-other_name
unfolding is_needed
returns-clause-other_name c = refl

pub returns-clause-installed_once : goal.returns-clause-installed_once
unfolding is_needed
returns-clause-installed_once c = refl
