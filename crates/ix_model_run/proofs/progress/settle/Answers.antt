use Rattle.std.proofs.Common.{sym, ap, ◌∙◌}
use Rattle.ix_lanes.specs.Progress.{settled}
use Rattle.ix_model.specs.Units.{units_at}
use Rattle.ix_model_run.proofs.Settling.{asks, goes, waits}
use Rattle.ix_model_run.proofs.progress.settle.Goals as goal

pub returns-in-None : goal.returns-in-None
returns-in-None c = sym (waits (units_at c.args.publications.now) c.loop-ask.lane.progress (sym c.in_ok-next.ensures ∙ c.in-None.is)) ∙ c.loop-ask.invariant

pub answered-requires : goal.answered-requires
answered-requires c = asks (units_at c.args.publications.now) c.loop-ask.lane.progress c.in-Some.ended (sym c.in_ok-next.ensures ∙ c.in-Some.is)

pub loop-ask-preserved : goal.loop-ask-preserved
loop-ask-preserved c =
    ap (settled (units_at c.args.publications.now)) c.answered.ensures.progress
    ∙ (sym (goes (units_at c.args.publications.now) c.loop-ask.lane.progress c.in-Some.ended (sym c.in_ok-next.ensures ∙ c.in-Some.is)) ∙ c.loop-ask.invariant)
