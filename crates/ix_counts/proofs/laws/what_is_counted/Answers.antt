use Rattle.std.proofs.Common.{refl}
use Rattle.ix_counts.proofs.Events.{is_load, is_scan, loaded_is, scanned_is}
use Rattle.ix_counts.proofs.laws.what_is_counted.Goals as goal

pub returns-clause-which : goal.returns-clause-which
returns-clause-which c mark removed lost damaged = refl

pub returns-clause-loaded : goal.returns-clause-loaded
returns-clause-loaded c call outcome = (loaded_is call outcome, is_load call outcome)

pub returns-clause-scanned : goal.returns-clause-scanned
returns-clause-scanned c call outcome = (scanned_is call outcome, is_scan call outcome)
