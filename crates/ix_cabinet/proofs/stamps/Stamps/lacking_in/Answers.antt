use Rattle.std.proofs.Common.{◌≡◌, subst, sym, ap, ◌∙◌, filter, not, IfOk}
use Rattle.std.specs.FinMap.{contains_key, keys}
use Rattle.std.specs.Map.{keys_of}
use Rattle.ix_cabinet.proofs.NamesRise.{rising_keys, kept_rise}
use Rattle.ix_cabinet.proofs.StampsByName.{keys_sorted}
use Rattle.ix_types.specs.Row.{text_cmp}
use Rattle.ix_cabinet.proofs.stamps.Stamps.lacking_in.Goals as goal

pub returns-clause-names : goal.returns-clause-names
returns-clause-names c =
    let es = c.self.inside.stamps.entries in
    let same : keys_of es ≡ keys c.args.self.now = sym (keys_sorted es c.self.invariant) ∙ ap keys c.self.view_is in
    subst (λ ks. IfOk c.lacking.result (λ names. names.items ≡ filter (λ name. not (contains_key c.args.others.now name)) ks)) same c.lacking.ensures

pub returns-clause-rising : goal.returns-clause-rising
returns-clause-rising c =
    let es = c.self.inside.stamps.entries in
    kept_rise c.lacking.result (λ name. not (contains_key c.args.others.now name)) (keys_of es) (rising_keys text_cmp es c.self.invariant) c.lacking.ensures
