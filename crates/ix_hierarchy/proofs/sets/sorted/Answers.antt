use Rattle.ix_hierarchy.proofs.Sorted.{set_rises, set_same}
use Rattle.ix_hierarchy.proofs.sets.sorted.Goals as goal

pub returns-clause-rises : goal.returns-clause-rises
returns-clause-rises g c =
    set_rises g.T.Ord.cmp g.T.PartialEq.eq c.sort_unstable.new.self.items c.dedup.new.self.items c.dedup.ensures.filtered g.met.T.Ord.total g.met.T.Ord.matches_eq c.sort_unstable.ensures.sorted

pub returns-clause-same : goal.returns-clause-same
returns-clause-same g c =
    set_same g.T.Ord.cmp g.T.PartialEq.eq c.sort_unstable.new.self.items c.dedup.new.self.items c.dedup.ensures.filtered g.met.T.Eq.laws c.requires c.args.items.items c.sort_unstable.ensures.permutation
