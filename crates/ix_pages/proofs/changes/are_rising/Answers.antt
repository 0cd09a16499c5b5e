use Rattle.std.proofs.Common.{rules}
use Rattle.std.specs.Ordering.{is_lt}
use Rattle.std.proofs.lemmas.Fn.{always_returns_same}
use Rattle.ix_pages.specs.Changes.{key_of_change}
use Rattle.ix_pages.proofs.Adjacent.{rising_answer}
use Rattle.ix_pages.proofs.changes.are_rising.Goals as goal

pub returns : goal.returns
returns g c =
    let adjacent = c.is_sorted_by.ensures.cases (λ x y. is_lt (g.K.Ord.cmp (key_of_change x) (key_of_change y))) (always_returns_same _ _ _ (λ a r h called. search rules)) in
    rising_answer g.met.K.Ord.total c.args.changes.now c.is_sorted_by.result adjacent
