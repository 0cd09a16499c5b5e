use Rattle.ix_counts.proofs.Events.{one, unchanged}
use Rattle.ix_counts.proofs.laws.events_are_counted.Goals as goal

pub returns-clause-one : goal.returns-clause-one
returns-clause-one c earlier event before after faults finds listings = one earlier event before after faults finds listings

pub returns-clause-none : goal.returns-clause-none
returns-clause-none c events before after faults finds listings = unchanged events before after faults finds listings
