use Rattle.std.proofs.Common.{arith}
use Rattle.ix_counts.proofs.Sums.{both, both_loads, both_scans, joined, none}
use Rattle.ix_counts.proofs.laws.counts_add_up.Goals as goal

pub returns-clause-none : goal.returns-clause-none
returns-clause-none c events counts = none events counts

pub returns-clause-joined : goal.returns-clause-joined
returns-clause-joined c first second third before between after p q = joined first second third before between after p q

pub returns-clause-at_least : goal.returns-clause-at_least
returns-clause-at_least c earlier events before after counted low = let rose = counted.rose in omega (arith, rose, low)

pub returns-clause-found : goal.returns-clause-found
returns-clause-found c earlier events before after counted low = let rose = counted.found in omega (arith, rose, low)

pub returns-clause-listed : goal.returns-clause-listed
returns-clause-listed c earlier events before after counted low = let rose = counted.listed in omega (arith, rose, low)

pub returns-clause-both : goal.returns-clause-both
returns-clause-both c first second = both first second

pub returns-clause-both_loads : goal.returns-clause-both_loads
returns-clause-both_loads c first second = both_loads first second

pub returns-clause-both_scans : goal.returns-clause-both_scans
returns-clause-both_scans c first second = both_scans first second
