use Rattle.std.proofs.Common.{◌≡◌}
use Rattle.ix_answers.specs.Walks.{reached}
use Rattle.ix_answers.specs.Needs.{walk_needs}
use Rattle.ix_answers.proofs.needs.walk_needs.Given as goal

-- the levels and the needs so far
abbrev pub invariant-loop-n : goal.invariant-loop-n
invariant-loop-n l = record {
  earlier : l.earlier.items ≡ (reached l.walk l.all.items l.usr l.n).earlier;
  level : l.level.items ≡ (reached l.walk l.all.items l.usr l.n).level;
  needed : l.needed.items ≡ walk_needs l.walk l.usr l.units.entries l.n;
}
