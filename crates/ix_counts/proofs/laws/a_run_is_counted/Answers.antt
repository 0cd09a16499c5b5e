use Rattle.ix_counts.proofs.Sums.{all_faults, all_finds, all_listings}
use Rattle.ix_counts.proofs.laws.a_run_is_counted.Goals as goal

pub returns-clause-faults : goal.returns-clause-faults
returns-clause-faults c events before after run = all_faults events before after run

pub returns-clause-finds : goal.returns-clause-finds
returns-clause-finds c events before after run = all_finds events before after run

pub returns-clause-listings : goal.returns-clause-listings
returns-clause-listings c events before after run = all_listings events before after run
