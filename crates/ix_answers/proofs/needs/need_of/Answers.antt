use Rattle.std.proofs.Common.{◌≡◌, IfOk, sym, subst}
use Rattle.ix_types.specs.declared.row.Query.{Query}
use Rattle.ix_answers.specs.Needs.{need_of}
use Rattle.ix_answers.proofs.needs.need_of.Goals as goal

pub returns-in-Pattern : goal.returns-in-Pattern
returns-in-Pattern c = subst (λ (q : Query). IfOk c.holders_of_matched.result (λ names. names ≡ need_of q c.args.units.now.entries)) (sym c.in-Pattern.is) c.holders_of_matched.ensures
