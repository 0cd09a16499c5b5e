use Rattle.ix_pages.specs.Pairs.{IsRising}
use Rattle.ix_index.proofs.Merging.{IsMerged}
use Rattle.ix_index.proofs.postings.recounted.Given as goal

abbrev pub invariant-loop-recount : goal.invariant-loop-recount
invariant-loop-recount g l = record {
  rising : IsRising g.V.Ord.cmp l.rest;
  made : IsMerged g.V.Ord.cmp l.initial.rest l.yielded l.rest l.after;
}
