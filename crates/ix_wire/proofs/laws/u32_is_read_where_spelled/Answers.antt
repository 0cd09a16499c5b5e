use Rattle.ix_wire.proofs.Fields.{u32_where_spelled}
use Rattle.ix_wire.proofs.laws.u32_is_read_where_spelled.Goals as goal

pub returns : goal.returns
returns c = u32_where_spelled
