use Rattle.std.proofs.Common.{◌∙◌, sym, ap, subst, arith}
use Rattle.ix_pages.specs.Paging.{pairs_of}
use Rattle.ix_pages.specs.Changes.{AreRising}
use Rattle.ix_index.specs.Counted.{count_of, IsIndex}
use Rattle.ix_index.specs.Recounting.{all_revised}
use Rattle.ix_index.proofs.Revising.{index_all_revised, count_all_revised, changes_rise, recounts_of, revised_pages}
use Rattle.ix_index.proofs.index.Index.with_all.Goals as goal

pub with_all-requires : goal.with_all-requires
with_all-requires g c = (
  omega arith,
  subst (AreRising g.K.Ord.cmp) (sym (c.in_ok-changes.ensures (recounts_of g.V.Ord.cmp g.met.K.Ord.total c.args.revisions.items c.requires)))
      (changes_rise g.V.Ord.cmp g.met.K.Ord.total (pairs_of c.self.inside.pages) c.args.revisions.items c.requires),
)

pub invariant_of-result : goal.invariant_of-result
invariant_of-result g c =
    let is = revised_pages g.V.Ord.cmp g.met.K.Ord.total (pairs_of c.self.inside.pages) (pairs_of c.in_ok-pages.pages) c.in_ok-changes.changes.items c.args.revisions.items c.requires c.in_ok-changes.ensures c.in_ok-pages.ensures.pairs in
    subst (IsIndex g.K.Ord.cmp g.V.Ord.cmp) (sym is) (index_all_revised g.met.K.Ord.total g.met.V.Ord.total (pairs_of c.self.inside.pages) c.args.revisions.items c.self.invariant)

pub returns-clause-index : goal.returns-clause-index
returns-clause-index g c =
    let is = revised_pages g.V.Ord.cmp g.met.K.Ord.total (pairs_of c.self.inside.pages) (pairs_of c.in_ok-pages.pages) c.in_ok-changes.changes.items c.args.revisions.items c.requires c.in_ok-changes.ensures c.in_ok-pages.ensures.pairs in
    subst (IsIndex g.K.Ord.cmp g.V.Ord.cmp) (sym is) (index_all_revised g.met.K.Ord.total g.met.V.Ord.total (pairs_of c.self.inside.pages) c.args.revisions.items c.self.invariant)

pub returns-clause-revised : goal.returns-clause-revised
returns-clause-revised g c =
    revised_pages g.V.Ord.cmp g.met.K.Ord.total (pairs_of c.self.inside.pages) (pairs_of c.in_ok-pages.pages) c.in_ok-changes.changes.items c.args.revisions.items c.requires c.in_ok-changes.ensures c.in_ok-pages.ensures.pairs
    ∙ ap (λ index. all_revised g.K.Ord.cmp g.V.Ord.cmp index c.args.revisions.items) c.self.view_is

pub returns-clause-counts : goal.returns-clause-counts
returns-clause-counts g c key value =
    let is = revised_pages g.V.Ord.cmp g.met.K.Ord.total (pairs_of c.self.inside.pages) (pairs_of c.in_ok-pages.pages) c.in_ok-changes.changes.items c.args.revisions.items c.requires c.in_ok-changes.ensures c.in_ok-pages.ensures.pairs in
    ap (λ index. count_of g.K.Ord.cmp g.V.Ord.cmp index key value) (is ∙ ap (λ index. all_revised g.K.Ord.cmp g.V.Ord.cmp index c.args.revisions.items) c.self.view_is)
    ∙ count_all_revised g.met.K.Ord.total g.met.V.Ord.total c.args.self.now c.args.revisions.items key value (subst (IsIndex g.K.Ord.cmp g.V.Ord.cmp) c.self.view_is c.self.invariant) c.requires
