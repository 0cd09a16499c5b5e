use Rattle.std.proofs.Common.{◌≡◌, ◌++◌, take}
use Rattle.ix_needs.specs.Chosen.{loaded_rows}
use Rattle.ix_query.proofs.rows.append_loaded.Given as goal

abbrev pub invariant-loop-name : goal.invariant-loop-name
invariant-loop-name g l = l.out.items ≡ l.initial.out.items ++ loaded_rows (g.C.Choice.passes l.key l.mask) (take l.name-index l.names) (g.L.Lookups.found l.lookups) l.bodies
