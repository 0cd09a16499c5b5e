use Rattle.std.proofs.Common.{◌∙◌}
use Rattle.ix_query.proofs.Searched.{text_stays, text_folds}
use Rattle.ix_query.proofs.pattern.folded.Goals as goal

pub returns-in_ok-fold_into-clause-text : goal.returns-in_ok-fold_into-clause-text
returns-in_ok-fold_into-clause-text c = text_folds c.args.text.now c.bytes.result.now c.fold_into.new.buffer.items c.bytes.ensures.text c.bytes.ensures.value c.in_ok-fold_into.ensures

pub returns-in_ok-from_slice-clause-text : goal.returns-in_ok-from_slice-clause-text
returns-in_ok-from_slice-clause-text c =
    text_stays c.args.text.now c.in_ok-from_slice.field-0.items c.bytes-else-fold.ensures.text (c.in_ok-from_slice.ensures.items ∙ c.bytes-else-fold.ensures.value)
