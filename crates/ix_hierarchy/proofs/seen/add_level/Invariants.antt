use Rattle.std.proofs.Common.{◌≡◌, ◌||◌, ℕ, List}
use Rattle.ix_answers.specs.Lookups.{is_among}
use Rattle.ix_hierarchy.proofs.seen.add_level.Given as goal

-- what is in the set and what is left have together what the set and the level had, and what is left is of the level
abbrev pub invariant-loop-usr : goal.invariant-loop-usr
invariant-loop-usr l = record {
  met : (usr : List ℕ) → (is_among l.seen.keys usr || is_among l.usr-iterator usr) ≡ (is_among l.initial.seen.keys usr || is_among l.level.keys usr);
  rest : (usr : List ℕ) → (is_among l.usr-iterator usr || is_among l.level.keys usr) ≡ is_among l.level.keys usr;
}
