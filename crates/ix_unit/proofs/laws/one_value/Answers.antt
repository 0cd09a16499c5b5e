use Rattle.ix_unit.proofs.Faults.{one_value}
use Rattle.ix_unit.proofs.laws.one_value.Goals as goal

pub returns : goal.returns
returns c = one_value
