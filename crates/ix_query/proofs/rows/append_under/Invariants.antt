use Rattle.std.proofs.Common.{◌≡◌, ◌++◌, take}
use Rattle.ix_needs.specs.Chosen.{rows_under}
use Rattle.ix_query.proofs.rows.append_under.Given as goal

abbrev pub invariant-loop-name : goal.invariant-loop-name
invariant-loop-name g l = l.out.items ≡ l.initial.out.items ++ rows_under (g.C.Choice.passes l.key l.mask) l.path (take l.name-index l.names) l.bodies
