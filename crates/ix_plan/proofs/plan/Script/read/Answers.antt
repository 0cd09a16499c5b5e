use Rattle.ix_plan.specs.View.{view}
use Rattle.ix_plan.proofs.StepsKept.{read_is}
use Rattle.ix_plan.proofs.plan.Script.read.Goals as goal

pub returns-clause-kept : goal.returns-clause-kept
returns-clause-kept c = read_is (view c.in_ok-value.value) c.script.result c.script.ensures
