use Rattle.ix_wire.proofs.Steps.{passes_split}
use Rattle.ix_wire.proofs.laws.passes_split.Goals as goal

pub returns : goal.returns
returns c = passes_split
