use Rattle.std.proofs.Common.{◌≡◌, ◌++◌, ℕ, OnOk, subst}
use Rattle.ix_types.specs.Codes.{words_of, props}
use Rattle.ix_types.proofs.code.Props.push_names.Goals as goal

pub returns-clause-names : goal.returns-clause-names
returns-clause-names c =
    subst (λ (bits : ℕ). OnOk c.push_names_of.result (c.push_names_of.new.out.items ≡ c.args.out.now.items ++ words_of props bits)) c.self.view_is c.push_names_of.ensures.words
