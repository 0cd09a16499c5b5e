use Rattle.ix_wire.proofs.Fields.{text_where_spelled}
use Rattle.ix_wire.proofs.laws.text_is_read_where_spelled.Goals as goal

pub returns : goal.returns
returns c = text_where_spelled
