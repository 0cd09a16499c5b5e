use Rattle.ix_wire.proofs.Fields.{u64_begins_no_other}
use Rattle.ix_wire.proofs.laws.u64_begins_no_other.Goals as goal

pub returns : goal.returns
returns c = u64_begins_no_other
