use Rattle.ix_changes.proofs.Waiting.{none_pends, waits_at_most}
use Rattle.ix_changes.proofs.laws.at_most_one_change_waits.Goals as goal

pub returns-clause-none : goal.returns-clause-none
returns-clause-none c s moves pending waits = none_pends s moves pending waits

pub returns-clause-one : goal.returns-clause-one
returns-clause-one c s moves waits = waits_at_most s moves waits

pub returns-clause-settled : goal.returns-clause-settled
returns-clause-settled c s moves waits pending = waits.none pending

pub returns-clause-last : goal.returns-clause-last
returns-clause-last c s moves mark waits pending = waits.last mark pending
