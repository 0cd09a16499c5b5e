use Rattle.std.proofs.Common.{take}
use Rattle.ix_types.proofs.Words.{NamesSoFar}
use Rattle.ix_types.proofs.code_table.push_names.Given as goal

abbrev pub invariant-loop-row : goal.invariant-loop-row
invariant-loop-row l = NamesSoFar l.fn.out.items l.out.items l.first (take l.row-index l.rows) l.bits
