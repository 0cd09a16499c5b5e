use Rattle.std.proofs.Common.{◌∙◌}
use Rattle.ix_answers.specs.Pattern.{stands_in}
use Rattle.ix_query.proofs.Searched.{search_finds}
use Rattle.ix_query.proofs.pattern.stands_in.Goals as goal

pub returns : goal.returns
returns c =
    search_finds c.contains.result c.from_utf8_unchecked-text.result.now c.from_utf8_unchecked-name.result.now c.contains.ensures.cases
    ∙ (λ i. stands_in (c.from_utf8_unchecked-text.ensures i) (c.from_utf8_unchecked-name.ensures i))
