use Rattle.ix_wire.proofs.Fronts.{u32_front}
use Rattle.ix_wire.proofs.laws.u32_is_short_or_same.Goals as goal

pub returns : goal.returns
returns c = u32_front
