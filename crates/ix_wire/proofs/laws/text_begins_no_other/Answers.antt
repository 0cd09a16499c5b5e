use Rattle.ix_wire.proofs.Fields.{text_begins_no_other}
use Rattle.ix_wire.proofs.laws.text_begins_no_other.Goals as goal

pub returns : goal.returns
returns c = text_begins_no_other
