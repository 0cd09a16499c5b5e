use Rattle.std.proofs.Common.{◌≡◌, take, filter}
use Rattle.std.specs.List.{flat_map}
use Rattle.ix_answers.specs.Pattern.{matches}
use Rattle.ix_query.proofs.names.matching.Given as goal

abbrev pub invariant-loop-place : goal.invariant-loop-place
invariant-loop-place g l = l.usrs.items ≡ flat_map (λ name. (g.L.Lookups.found l.lookups).named name) (filter (matches l.text l.start l.end l.fold) (take l.place (g.L.Lookups.found l.lookups).names))
