use Rattle.ix_wire.proofs.Fronts.{text_front}
use Rattle.ix_wire.proofs.laws.text_is_short_or_same.Goals as goal

pub returns : goal.returns
returns c = text_front
