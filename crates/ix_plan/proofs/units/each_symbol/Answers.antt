use Rattle.std.proofs.Common.{[], ◌∷◌, ◌++◌, ap, refl, sym, subst, ◌∙◌, ◌+◌, drop, IfOk, Err}
use Rattle.std.proofs.lemmas.Result.{err_from_is_err_and}
use Rattle.ix_plan.specs.declared.refusal.ScriptError.{ScriptError}
use Rattle.ix_plan.specs.View.{view, items_view}
use Rattle.ix_plan.specs.Json.{in_order, one_more}
use Rattle.ix_plan.specs.Plans.{symbol_of, is_usr_of}
use Rattle.ix_plan.specs.Read.{Gives}
use Rattle.ix_plan.specs.Usrs.{Keeps, KeepsNext}
use Rattle.ix_plan.proofs.Items.{next_item, failed_item, not_given}
use Rattle.ix_plan.proofs.units.each_symbol.Goals as goal

pub returns-in_err-symbol : goal.returns-in_err-symbol
returns-in_err-symbol c =
    let p = err_from_is_err_and c.from_residual-in_err-symbol.result c.from_residual-in_err-symbol.ensures.1 in
    let keeps = subst (λ symbols. Keeps c.loop-index.usrs.firsts c.loop-index.usrs.others.keys symbols) (sym c.as_slice.ensures.value) c.loop-index.invariant.1 in
    let given = subst (λ symbols. Gives c.symbol.result (symbol_of c.args.setting.now.format (is_usr_of symbols) (view c.index-values-index.result))) c.as_slice.ensures.value (c.symbol.ensures.read keeps) in
    not_given (p.1 ∙ ap (λ (e : ScriptError). Err e) p.2) c.loop-index.invariant.0
    (failed_item (λ before. symbol_of c.args.setting.now.format (is_usr_of before)) one_more c.loop-index.symbols.items c.loop-index.index c.args.values.now _ _ c.loop-index-test.true c.index-values-index.is
    (c.in_err-symbol.ensures.placed _ given))

pub loop-index-preserved : goal.loop-index-preserved
loop-index-preserved c =
    let keeps = subst (λ symbols. Keeps c.loop-index.usrs.firsts c.loop-index.usrs.others.keys symbols) (sym c.as_slice.ensures.value) c.loop-index.invariant.1 in
    let given = subst (λ symbols. Gives c.symbol.result (symbol_of c.args.setting.now.format (is_usr_of symbols) (view c.index-values-index.result))) c.as_slice.ensures.value (c.symbol.ensures.read keeps) in
    let next =
    subst (λ read. IfOk read (λ symbol. KeepsNext c.symbol.new.usrs.firsts c.symbol.new.usrs.others.keys c.as_slice.result.now symbol.usr)) c.in_ok-symbol.ensures.same (c.symbol.ensures.kept keeps) c.in_ok-symbol.symbol refl in (
      (ap (λ table. in_order (λ before. symbol_of c.args.setting.now.format (is_usr_of before)) one_more table (c.loop-index.index + 1) (items_view (drop (c.loop-index.index + 1) c.args.values.now))) c.in_ok-push.ensures.items
          ∙ sym (next_item (λ before. symbol_of c.args.setting.now.format (is_usr_of before)) one_more c.loop-index.symbols.items c.loop-index.index c.args.values.now _ _ c.loop-index-test.true c.index-values-index.is
          (c.in_ok-symbol.ensures.placed _ given))
          ∙ c.loop-index.invariant.0),
      (subst (λ symbols. Keeps c.symbol.new.usrs.firsts c.symbol.new.usrs.others.keys symbols) (ap (λ symbols. symbols ++ c.in_ok-symbol.symbol ∷ []) c.as_slice.ensures.value ∙ sym c.in_ok-push.ensures.items) next),
    )
