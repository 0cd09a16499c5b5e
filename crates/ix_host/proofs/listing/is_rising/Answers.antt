use Rattle.std.proofs.Common.{rules}
use Rattle.std.specs.Ordering.{is_lt}
use Rattle.std.proofs.lemmas.Fn.{always_returns_same}
use Rattle.ix_types.specs.Row.{text_cmp}
use Rattle.ix_host.proofs.Rising.{rising_answer}
use Rattle.ix_host.proofs.listing.is_rising.Goals as goal

pub returns : goal.returns
returns c =
    let adjacent = c.is_sorted_by.ensures.cases (λ x y. is_lt (text_cmp x.name y.name)) (always_returns_same _ _ _ (λ a r h called. search rules)) in
    rising_answer c.args.listed.now c.is_sorted_by.result adjacent
