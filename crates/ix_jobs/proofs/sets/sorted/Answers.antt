use Rattle.ix_jobs.proofs.Sorting.{sorted_and_deduped}
use Rattle.ix_jobs.proofs.sets.sorted.Goals as goal

pub returns : goal.returns
returns g c =
    sorted_and_deduped g.T.Ord.cmp g.T.PartialEq.eq g.met.T.Ord.total c.requires.exact g.met.T.Ord.matches_eq g.met.T.Eq.laws
    c.args.items.items c.sort_unstable.new.self.items c.dedup.new.self.items c.sort_unstable.ensures.permutation c.sort_unstable.ensures.sorted c.dedup.ensures.filtered
