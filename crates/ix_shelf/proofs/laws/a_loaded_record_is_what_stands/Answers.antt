use Rattle.std.proofs.Common.{sym, ◌∙◌, subst}
use Rattle.std.proofs.lemmas.Option.{same_Some}
use Rattle.ix_record.specs.Spelling.{RecordSpelling}
use Rattle.ix_shelf.proofs.laws.a_loaded_record_is_what_stands.Goals as goal

pub returns-clause-named : goal.returns-clause-named
returns-clause-named c name_of name moves value is = (is.bytes, is.named, is.spelled)

pub returns-clause-stands : goal.returns-clause-stands
returns-clause-stands c name_of name moves value is = record {
  bytes = is.bytes;
  stands = is.stands;
  whole = record { named = is.named; spelled = (value, is.spelled) };
}

pub returns-clause-spelled : goal.returns-clause-spelled
returns-clause-spelled c name_of name bytes moves value is there = subst (λ b. RecordSpelling b value) (same_Some _ _ (sym is.stands ∙ there)) is.spelled
