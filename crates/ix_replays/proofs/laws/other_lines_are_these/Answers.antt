use Rattle.std.proofs.Common.{refl}
use Rattle.std.specs.Fmt.{digits}
use Rattle.ix_replays.proofs.laws.other_lines_are_these.Goals as goal

pub returns-clause-missing : goal.returns-clause-missing
unfolding digits
returns-clause-missing c = refl

pub returns-clause-field : goal.returns-clause-field
unfolding digits
returns-clause-field c = refl

pub returns-clause-none : goal.returns-clause-none
unfolding digits
returns-clause-none c = refl

pub returns-clause-rows : goal.returns-clause-rows
unfolding digits
returns-clause-rows c = refl

pub returns-clause-edge : goal.returns-clause-edge
unfolding digits
returns-clause-edge c = refl

pub returns-clause-whole : goal.returns-clause-whole
unfolding digits
returns-clause-whole c = refl

pub returns-clause-lanes : goal.returns-clause-lanes
unfolding digits
returns-clause-lanes c = refl
