use Rattle.std.proofs.Common.{[], sym, ap, ◌∙◌}
use Rattle.ix_index.specs.Gathering.{with_step}
use Rattle.ix_index.proofs.Ends.{gathered_more}
use Rattle.ix_index.proofs.steps.gather_all.Goals as goal

pub loop-step-preserved : goal.loop-step-preserved
loop-step-preserved g c =
    c.in_ok-gather.ensures
    ∙ ap (λ rs. with_step g.K.Ord.cmp g.V.Ord.cmp rs c.in-Some.step) c.loop-step.invariant
    ∙ sym (gathered_more g.K.Ord.cmp g.V.Ord.cmp [] c.loop-step.yielded c.in-Some.step)
