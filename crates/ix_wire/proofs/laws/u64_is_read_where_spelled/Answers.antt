use Rattle.ix_wire.proofs.Fields.{u64_where_spelled}
use Rattle.ix_wire.proofs.laws.u64_is_read_where_spelled.Goals as goal

pub returns : goal.returns
returns c = u64_where_spelled
