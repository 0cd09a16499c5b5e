use Rattle.ix_unit.proofs.Faults.{one_spelling}
use Rattle.ix_unit.proofs.laws.one_spelling.Goals as goal

pub returns : goal.returns
returns c = one_spelling
