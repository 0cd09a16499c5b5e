use Rattle.std.proofs.Common.{◌≡◌, ◌-◌, ℕ, List, map, take}
use Rattle.ix_pages.specs.Paging.{pairs_of}
use Rattle.ix_guard.specs.Counts.{count_at, times, AreCountPages}
use Rattle.ix_guard.proofs.recount.lower_all.Given as goal

abbrev pub invariant-loop-dep : goal.invariant-loop-dep
invariant-loop-dep l = record {
  are_pages : AreCountPages l.counts;
  each : (name : List ℕ) → count_at (pairs_of l.counts) name ≡ count_at (pairs_of l.before) name - times name (map (λ dep. dep.name) (take l.dep-index l.deps));
}
