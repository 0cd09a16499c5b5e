use Rattle.std.proofs.Common.{◌≡◌, ℕ, List, map, take}
use Rattle.ix_dir.specs.Images.{values_of}
use Rattle.ix_dir.specs.NotedInOneWalk.{held, noted_of, Holds}
use Rattle.ix_dir.specs.ValuesByNumber.{value_at}
use Rattle.ix_dir.proofs.values_by_name.ValuesByName.noted_in.Given as goal

abbrev pub invariant-loop-number : goal.invariant-loop-number
invariant-loop-number l = record {
  holds : (q : List ℕ) → Holds l.number l.pending.synced (noted_of l.pending q) (held l.pending q);
  values : (q : List ℕ) → map (value_at l.moves) (held l.pending q) ≡ values_of (take l.number l.moves) l.area q;
}
