use Rattle.std.proofs.Common.{◌∙◌}
use Rattle.ix_query.proofs.Searched.{text_stays, text_folds}
use Rattle.ix_query.proofs.pattern.has_text.Goals as goal

pub stands_at-requires-clause-name : goal.stands_at-requires-clause-name
stands_at-requires-clause-name c =
    text_folds c.args.name.now c.bytes.result.now c.deref.result.now c.bytes.ensures.text c.bytes.ensures.value (c.deref.ensures.value ∙ c.in_ok-fold_into.ensures)

pub stands_at-requires-else-fold-clause-name : goal.stands_at-requires-else-fold-clause-name
stands_at-requires-else-fold-clause-name c = text_stays c.args.name.now c.bytes-else-fold.result.now c.bytes-else-fold.ensures.text c.bytes-else-fold.ensures.value
