use Rattle.ix_record.proofs.Faults.{one_format}
use Rattle.ix_record.proofs.laws.one_format.Goals as goal

pub returns : goal.returns
returns c = one_format
