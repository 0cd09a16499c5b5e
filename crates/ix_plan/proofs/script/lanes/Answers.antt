use Rattle.ix_plan.specs.View.{view}
use Rattle.ix_plan.proofs.Lengths.{few_lanes}
use Rattle.ix_plan.proofs.script.lanes.Goals as goal

pub returns-in-Ok-clause-few : goal.returns-in-Ok-clause-few
returns-in-Ok-clause-few c = few_lanes c.args.setting.now.format (view c.args.value.now) c.in-Ok.lanes c.in-Ok.ensures
