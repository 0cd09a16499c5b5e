use Rattle.ix_wire.proofs.Steps.{passes_bytes}
use Rattle.ix_wire.proofs.laws.passes_bytes.Goals as goal

pub returns : goal.returns
returns c = passes_bytes
