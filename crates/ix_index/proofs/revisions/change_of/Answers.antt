use Rattle.ix_pages.specs.Paging.{pairs_of}
use Rattle.ix_index.proofs.Revising.{postings_rise}
use Rattle.ix_index.proofs.revisions.change_of.Goals as goal

pub recounted-requires : goal.recounted-requires
recounted-requires g c = rw c.part_at.ensures (postings_rise g.met.K.Ord.total g.met.V.Ord.total (pairs_of c.args.pages.now) c.args.revision.key c.requires)
