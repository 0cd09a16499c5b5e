use Rattle.ix_replays.proofs.Runs.{stepped_good}
use Rattle.ix_replays.proofs.laws.no_mark_falls.Goals as goal

pub returns-clause-fit : goal.returns-clause-fit
returns-clause-fit c name_of s lane given flag stepped fit is = (stepped_good name_of s lane given flag stepped fit is).0.fit

pub returns-clause-falls : goal.returns-clause-falls
returns-clause-falls c name_of s lane given flag stepped fit is = (stepped_good name_of s lane given flag stepped fit is).0.falls

pub returns-clause-within : goal.returns-clause-within
returns-clause-within c name_of s lane given flag stepped mark fit is at = (stepped_good name_of s lane given flag stepped fit is).1 mark at
