use Rattle.ix_pages.specs.Paging.{pairs_of}
use Rattle.ix_index.proofs.Revising.{postings_rise}
use Rattle.ix_index.proofs.index.Index.count.Goals as goal

pub count-requires : goal.count-requires
count-requires g c = rw c.part_at.ensures (postings_rise g.met.K.Ord.total g.met.V.Ord.total (pairs_of c.self.inside.pages) c.args.key.now c.self.invariant)
