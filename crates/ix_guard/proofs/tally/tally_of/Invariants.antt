use Rattle.std.proofs.Common.{◌≡◌, ◌<◌, ℕ, List, take}
use Rattle.std.specs.List.{AllByRecursion}
use Rattle.ix_guard.specs.Counts.{count_at, times}
use Rattle.ix_guard.specs.Listing.{names_in_all, units_put}
use Rattle.ix_guard.proofs.tally.tally_of.Given as goal

-- those of the units so far
abbrev pub invariant-loop-put : goal.invariant-loop-put
invariant-loop-put l = record {
  needed : AllByRecursion (λ pair. 0 < pair.1) l.tally.entries;
  each : (name : List ℕ) → count_at l.tally.entries name ≡ times name (names_in_all (units_put (take l.put-index l.puts)));
}
