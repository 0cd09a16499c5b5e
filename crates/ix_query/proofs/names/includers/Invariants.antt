use Rattle.std.proofs.Common.{◌≡◌, take, map, filter}
use Rattle.std.specs.List.{flat_map}
use Rattle.std.specs.Str.{bytes_eq}
use Rattle.ix_query.proofs.names.includers.Given as goal

abbrev pub invariant-loop-place : goal.invariant-loop-place
invariant-loop-place g l = l.all.items ≡ map (λ i. i.from) (filter (λ i. bytes_eq i.to l.path) (flat_map (λ entry. entry.1.includes) (take l.place (g.L.Lookups.found l.lookups).units)))
