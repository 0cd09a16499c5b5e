use Rattle.std.proofs.Common.{refl}
use Rattle.std.specs.Fmt.{digits}
use Rattle.ix_replays.proofs.laws.each_event_has_its_line.Goals as goal

pub returns-clause-leased : goal.returns-clause-leased
unfolding digits
returns-clause-leased c = refl

pub returns-clause-put : goal.returns-clause-put
unfolding digits
returns-clause-put c = refl

pub returns-clause-clashed : goal.returns-clause-clashed
unfolding digits
returns-clause-clashed c = refl

pub returns-clause-staged : goal.returns-clause-staged
unfolding digits
returns-clause-staged c = refl

pub returns-clause-published : goal.returns-clause-published
unfolding digits
returns-clause-published c = refl

pub returns-clause-removed_none : goal.returns-clause-removed_none
unfolding digits
returns-clause-removed_none c = refl

pub returns-clause-scanned : goal.returns-clause-scanned
unfolding digits
returns-clause-scanned c = refl

pub returns-clause-scan_lost : goal.returns-clause-scan_lost
unfolding digits
returns-clause-scan_lost c = refl

pub returns-clause-scan_failed : goal.returns-clause-scan_failed
unfolding digits
returns-clause-scan_failed c = refl

pub returns-clause-loaded : goal.returns-clause-loaded
unfolding digits
returns-clause-loaded c = refl

pub returns-clause-load_damaged : goal.returns-clause-load_damaged
unfolding digits
returns-clause-load_damaged c = refl

pub returns-clause-installed : goal.returns-clause-installed
unfolding digits
returns-clause-installed c = refl

pub returns-clause-adopted : goal.returns-clause-adopted
unfolding digits
returns-clause-adopted c = refl

pub returns-clause-released : goal.returns-clause-released
unfolding digits
returns-clause-released c = refl

pub returns-clause-collected : goal.returns-clause-collected
unfolding digits
returns-clause-collected c = refl

pub returns-clause-nothing : goal.returns-clause-nothing
unfolding digits
returns-clause-nothing c = refl
