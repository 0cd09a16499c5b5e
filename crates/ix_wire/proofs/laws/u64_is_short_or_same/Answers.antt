use Rattle.ix_wire.proofs.Fronts.{u64_front}
use Rattle.ix_wire.proofs.laws.u64_is_short_or_same.Goals as goal

pub returns : goal.returns
returns c = u64_front
