use Rattle.ix_record.proofs.Faults.{whole_where_no_fault}
use Rattle.ix_record.proofs.laws.whole_where_no_fault.Goals as goal

pub returns : goal.returns
returns c = whole_where_no_fault
