use Rattle.ix_lanes.proofs.Ready.{all_ready}
use Rattle.ix_lanes.proofs.laws.steps_are_ready.Goals as goal

pub returns : goal.returns
returns c steps all = all_ready c.short_plans_have_room.ensures steps all
