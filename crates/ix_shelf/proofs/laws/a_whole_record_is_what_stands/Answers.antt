use Rattle.std.proofs.Common.{sym, ap, ◌∙◌, subst, is_some}
use Rattle.std.proofs.lemmas.Option.{same_Some}
use Rattle.ix_record.specs.Whole.{IsWhole}
use Rattle.ix_shelf.proofs.laws.a_whole_record_is_what_stands.Goals as goal

pub returns-clause-there : goal.returns-clause-there
returns-clause-there c name_of name moves whole = ap is_some whole.stands

pub returns-clause-whole : goal.returns-clause-whole
returns-clause-whole c name_of name bytes moves whole is =
    subst (λ b. IsWhole name_of (record { name = name; bytes = b })) (same_Some _ _ (sym whole.stands ∙ is)) whole.whole
