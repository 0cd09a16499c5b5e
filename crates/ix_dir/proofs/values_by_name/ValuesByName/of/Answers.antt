use Rattle.std.proofs.Common.{◌∙◌, ap, map}
use Rattle.ix_dir.specs.NotedInOneWalk.{held_by}
use Rattle.ix_dir.specs.ValuesByNumber.{value_at}
use Rattle.ix_dir.proofs.values_by_name.ValuesByName.of.Goals as goal

pub returns : goal.returns
returns c = record {
  values = λ q. ap (λ noted. map (value_at c.args.moves.now) (held_by c.in_ok-pending.pending.synced noted)) (c.in_ok-sort_keys.ensures.reordered.2 q) ∙ c.in_ok-pending.ensures q;
  sorted = c.in_ok-sort_keys.ensures.sorted;
  unique = c.in_ok-sort_keys.ensures.unique;
}
