use Rattle.std.proofs.Common.{[], ◌∷◌, ◌++◌, sym, ap, ◌∙◌}
use Rattle.std.specs.Ordering.{is_eq}
use Rattle.ix_index.specs.Gathering.{with_turn}
use Rattle.ix_index.proofs.Ends.{step_same, step_new}
use Rattle.ix_index.proofs.steps.gather.Goals as goal

pub returns-then-is_eq : goal.returns-then-is_eq
returns-then-is_eq g c =
    step_same g.K.Ord.cmp g.V.Ord.cmp c.args.revisions.now.items c.pop.new.self.items c.push-then-is_eq.new.self.items c.in-Some.last c.of.result c.args.step
    c.in-Some.ensures.items (sym (c.is_eq.ensures ∙ ap is_eq c.cmp.ensures) ∙ c.if-is_eq.true)
    (c.of.ensures ∙ c.in_ok-turn-in-Some.ensures ∙ ap (λ rs. with_turn g.V.Ord.cmp rs c.args.step.value c.args.step.gains) c.into_vec-recounts.ensures)
    c.in_ok-push-in-Some.ensures.items

pub returns-in_ok-push-in-Some-3 : goal.returns-in_ok-push-in-Some-3
returns-in_ok-push-in-Some-3 g c =
    step_new g.K.Ord.cmp g.V.Ord.cmp c.args.revisions.now.items c.pop.new.self.items c.push-in-Some-2.new.self.items c.in-Some.last c.in_ok-revision-in-Some.revision c.args.step
    c.in-Some.ensures.items (sym (c.is_eq.ensures ∙ ap is_eq c.cmp.ensures) ∙ c.if-is_eq.false) c.in_ok-revision-in-Some.ensures
    (c.in_ok-push-in-Some-3.ensures.items ∙ ap (λ rs. rs ++ c.in_ok-revision-in-Some.revision ∷ []) c.in_ok-push-in-Some-2.ensures.items)
