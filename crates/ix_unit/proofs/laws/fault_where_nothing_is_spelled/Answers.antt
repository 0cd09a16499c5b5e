use Rattle.ix_unit.proofs.Faults.{fault_where_nothing_is_spelled}
use Rattle.ix_unit.proofs.laws.fault_where_nothing_is_spelled.Goals as goal

pub returns : goal.returns
returns c = fault_where_nothing_is_spelled
