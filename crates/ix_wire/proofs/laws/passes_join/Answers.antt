use Rattle.ix_wire.proofs.Steps.{passes_join}
use Rattle.ix_wire.proofs.laws.passes_join.Goals as goal

pub returns : goal.returns
returns c = passes_join
