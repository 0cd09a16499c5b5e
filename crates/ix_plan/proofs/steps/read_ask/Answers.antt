use Rattle.ix_plan.specs.View.{view}
use Rattle.ix_plan.proofs.StepsKept.{ask_is}
use Rattle.ix_plan.proofs.steps.read_ask.Goals as goal

pub returns-clause-kept : goal.returns-clause-kept
returns-clause-kept c = ask_is (view c.in_ok-value.value) c.ask_alone.result c.ask_alone.ensures
