use Rattle.std.proofs.Common.{◌≡◌, take}
use Rattle.std.specs.List.{flat_map}
use Rattle.ix_needs.specs.Chosen.{defining_rows}
use Rattle.ix_query.proofs.answers.defined_each.Given as goal

abbrev pub invariant-loop-usr : goal.invariant-loop-usr
invariant-loop-usr g l = l.rows.items ≡ flat_map (λ usr. defining_rows usr (g.L.Lookups.found l.lookups) l.bodies) (take l.usr-index l.usrs)
