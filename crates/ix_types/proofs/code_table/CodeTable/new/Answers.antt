use Rattle.ix_types.proofs.TableRows.{IsCodeTable-nil}
use Rattle.ix_types.proofs.code_table.CodeTable.new.Goals as goal

pub invariant_of-result : goal.invariant_of-result
invariant_of-result g c = rw c.new.ensures (IsCodeTable-nil g.row.N)
