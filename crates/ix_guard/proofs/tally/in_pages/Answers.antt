use Rattle.std.proofs.Common.{ℕ, List, [], sym, ap, subst, ◌∙◌, arith}
use Rattle.ix_types.specs.Row.{text_cmp}
use Rattle.ix_pages.specs.declared.changes.Change.{Change}
use Rattle.ix_pages.specs.Paging.{pairs_of}
use Rattle.ix_pages.specs.Changes.{changed, AreRising}
use Rattle.ix_guard.specs.Counts.{Counts}
use Rattle.ix_guard.proofs.Tallying.{puts_rise, put_all}
use Rattle.ix_guard.proofs.tally.in_pages.Goals as goal

pub with_all-requires : goal.with_all-requires
with_all-requires c = (
  omega arith,
  subst (AreRising text_cmp) (sym c.in_ok-changes.ensures.items) (puts_rise c.args.tally.now.entries c.changes_of.ensures.rise),
)

pub returns-clause-same : goal.returns-clause-same
returns-clause-same c =
    c.in_ok-counts.ensures.pairs
    ∙ (ap (λ (pages : List Counts). changed text_cmp (pairs_of pages) c.in_ok-changes.changes.items) c.empty-none.ensures
    ∙ (ap (λ (changes : List (Change (List ℕ) ℕ)). changed text_cmp [] changes) c.in_ok-changes.ensures.items
    ∙ put_all c.args.tally.now.entries c.changes_of.ensures.rise))
