use Rattle.ix_record.proofs.Faults.{one_value}
use Rattle.ix_record.proofs.laws.one_value.Goals as goal

pub returns : goal.returns
returns c = one_value
