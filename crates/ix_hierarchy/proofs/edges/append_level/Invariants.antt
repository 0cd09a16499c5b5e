use Rattle.std.proofs.Common.{◌≡◌, ◌++◌, take}
use Rattle.ix_levels.specs.Levels.{level_edges}
use Rattle.ix_hierarchy.proofs.edges.append_level.Given as goal

abbrev pub invariant-loop-name : goal.invariant-loop-name
invariant-loop-name g l = l.out.items ≡ l.initial.out.items ++ level_edges l.walk l.depth l.level.keys (take l.name-index l.names) (g.L.Lookups.found l.lookups) l.bodies
