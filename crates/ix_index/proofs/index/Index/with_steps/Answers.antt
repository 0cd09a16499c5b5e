use Rattle.std.proofs.Common.{ap, ◌+◌, ◌-◌, ◌∙◌, arith}
use Rattle.ix_pages.specs.Paging.{pairs_of}
use Rattle.ix_index.specs.Counted.{count_of}
use Rattle.ix_index.specs.Dealing.{dealt_of, steps_of}
use Rattle.ix_index.specs.Stepping.{gains_of, losses_of}
use Rattle.ix_index.proofs.Made.{made_rise, made_index, made_counts}
use Rattle.ix_index.proofs.index.Index.with_steps.Goals as goal

pub with_all-requires : goal.with_all-requires
with_all-requires g c = (
  omega arith,
  made_rise g.met.K.Ord.total g.met.V.Ord.total (pairs_of c.self.inside.pages) (steps_of (dealt_of c.in_ok-parts.parts)) c.in_ok-changes.changes.items c.change_all.new.changes.items
      (c.in_ok-change_all.ensures c.in_ok-parts.ensures.apart) c.in_ok-changes.ensures.items,
)

pub invariant_of-result : goal.invariant_of-result
invariant_of-result g c =
    made_index g.met.K.Ord.total g.met.V.Ord.total (pairs_of c.self.inside.pages) (steps_of (dealt_of c.in_ok-parts.parts)) c.in_ok-changes.changes.items c.change_all.new.changes.items
    (pairs_of c.in_ok-pages.pages) (c.in_ok-change_all.ensures c.in_ok-parts.ensures.apart) c.in_ok-changes.ensures.items c.in_ok-pages.ensures.pairs c.self.invariant

pub returns-clause-index : goal.returns-clause-index
returns-clause-index g c =
    made_index g.met.K.Ord.total g.met.V.Ord.total (pairs_of c.self.inside.pages) (steps_of (dealt_of c.in_ok-parts.parts)) c.in_ok-changes.changes.items c.change_all.new.changes.items
    (pairs_of c.in_ok-pages.pages) (c.in_ok-change_all.ensures c.in_ok-parts.ensures.apart) c.in_ok-changes.ensures.items c.in_ok-pages.ensures.pairs c.self.invariant

pub returns-clause-counts : goal.returns-clause-counts
returns-clause-counts g c key value =
    made_counts g.met.K.Ord.total g.met.V.Ord.total (pairs_of c.self.inside.pages) c.args.steps.items (steps_of (dealt_of c.in_ok-parts.parts)) c.in_ok-changes.changes.items c.change_all.new.changes.items
    (pairs_of c.in_ok-pages.pages) (c.in_ok-change_all.ensures c.in_ok-parts.ensures.apart) c.in_ok-changes.ensures.items c.in_ok-pages.ensures.pairs c.self.invariant c.in_ok-parts.ensures.same key value
    ∙ ap (λ index. count_of g.K.Ord.cmp g.V.Ord.cmp index key value + gains_of g.K.Ord.cmp g.V.Ord.cmp c.args.steps.items key value - losses_of g.K.Ord.cmp g.V.Ord.cmp c.args.steps.items key value) c.self.view_is
