use Rattle.std.proofs.Common.{◌≡◌, take}
use Rattle.ix_levels.specs.Levels.{fresh_ends}
use Rattle.ix_hierarchy.proofs.level.fresh_ends.Given as goal

abbrev pub invariant-loop-edge : goal.invariant-loop-edge
invariant-loop-edge l = l.ends.keys ≡ fresh_ends l.seen.keys (take l.edge-index l.edges)
