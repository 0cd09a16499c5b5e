use Rattle.std.proofs.Common.{[], ◌∷◌, ◌++◌, sym, ap, ◌∙◌}
use Rattle.std.specs.Ordering.{is_eq}
use Rattle.ix_index.proofs.Ends.{turn_same, turn_new}
use Rattle.ix_index.proofs.steps.turn.Goals as goal

pub returns-then-is_eq : goal.returns-then-is_eq
returns-then-is_eq g c =
    turn_same g.V.Ord.cmp c.args.recounts.now.items c.pop.new.self.items c.push-then-is_eq.new.self.items c.in-Some.last c.in_ok-last-in-Some.last c.args.value c.args.gains
    c.in-Some.ensures.items (sym (c.is_eq.ensures ∙ ap is_eq c.cmp.ensures) ∙ c.if-is_eq.true) c.in_ok-last-in-Some.ensures c.in_ok-push-in-Some.ensures.items

pub returns-in_ok-push-in-Some-3 : goal.returns-in_ok-push-in-Some-3
returns-in_ok-push-in-Some-3 g c =
    turn_new g.V.Ord.cmp c.args.recounts.now.items c.pop.new.self.items c.push-in-Some-2.new.self.items c.in-Some.last c.first-in-Some.result c.args.value c.args.gains
    c.in-Some.ensures.items (sym (c.is_eq.ensures ∙ ap is_eq c.cmp.ensures) ∙ c.if-is_eq.false) c.first-in-Some.ensures
    (c.in_ok-push-in-Some-3.ensures.items ∙ ap (λ rs. rs ++ c.first-in-Some.result ∷ []) c.in_ok-push-in-Some-2.ensures.items)
