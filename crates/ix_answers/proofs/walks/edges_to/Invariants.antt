use Rattle.std.proofs.Common.{◌≡◌}
use Rattle.ix_answers.specs.Walks.{reached, edges_to}
use Rattle.ix_answers.proofs.walks.edges_to.Given as goal

-- the levels and the edges so far
abbrev pub invariant-loop-n : goal.invariant-loop-n
invariant-loop-n l = record {
  earlier : l.earlier.items ≡ (reached l.walk l.all l.usr l.n).earlier;
  level : l.level.items ≡ (reached l.walk l.all l.usr l.n).level;
  edges : l.edges.items ≡ edges_to l.walk l.all l.usr l.n;
}
