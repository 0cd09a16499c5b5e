use Rattle.ix_wire.proofs.Fields.{u32_begins_no_other}
use Rattle.ix_wire.proofs.laws.u32_begins_no_other.Goals as goal

pub returns : goal.returns
returns c = u32_begins_no_other
