use Rattle.std.proofs.Common.{Option, ap, ◌∙◌}
use Rattle.std.specs.Option.{option_and_then}
use Rattle.ix_lanes.specs.Calls.{Turn}
use Rattle.ix_model_run.specs.Settling.{query_of}
use Rattle.ix_model_run.proofs.Turns.{turn_asks}
use Rattle.ix_model_run.proofs.progress.asked.Goals as goal

pub returns-in-None : goal.returns-in-None
returns-in-None c = ap (λ (o : Option Turn). option_and_then query_of o) c.in-None.ensures ∙ turn_asks c.args.lane.now.progress

pub returns-in-Some : goal.returns-in-Some
returns-in-Some c = c.query_of.ensures ∙ (ap (λ (o : Option Turn). option_and_then query_of o) c.in-Some.ensures ∙ turn_asks c.args.lane.now.progress)
