use Rattle.std.proofs.Common.{◌≡◌, ◌+◌, ◌<◌, ℕ, List, map, take}
use Rattle.std.specs.List.{AllByRecursion}
use Rattle.ix_guard.specs.Counts.{count_at, times}
use Rattle.ix_guard.proofs.tally.count_all.Given as goal

abbrev pub invariant-loop-dep : goal.invariant-loop-dep
invariant-loop-dep l = record {
  needed : AllByRecursion (λ pair. 0 < pair.1) l.tally.entries;
  each : (name : List ℕ) → count_at l.tally.entries name ≡ count_at l.initial.tally.entries name + times name (map (λ dep. dep.name) (take l.dep-index l.deps));
}
