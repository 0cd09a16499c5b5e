use Rattle.std.proofs.Common.{◌≡◌}
use Rattle.std.specs.List.{flat_map}
use Rattle.ix_levels.specs.Levels.{named_for}
use Rattle.ix_hierarchy.proofs.level.level_names.Given as goal

abbrev pub invariant-loop-usr : goal.invariant-loop-usr
invariant-loop-usr g l = l.names.items ≡ flat_map (λ usr. named_for l.walk (g.L.Lookups.found l.lookups) usr.now) l.yielded
