use Rattle.std.proofs.Common.{◌≡◌, take}
use Rattle.std.specs.List.{flat_map}
use Rattle.ix_query.proofs.needed.holding.Given as goal

abbrev pub invariant-loop-usr : goal.invariant-loop-usr
invariant-loop-usr g l = l.names.items ≡ flat_map (λ usr. (g.L.Lookups.found l.lookups).providers usr) (take l.usr-index l.usrs)
