use Rattle.ix_model_run.proofs.Running.{has_on}
use Rattle.ix_model_run.proofs.run.Rerun.has_call.Goals as goal

pub loop-lane-preserved : goal.loop-lane-preserved
loop-lane-preserved g c = λ run at.
    has_on g.N.Naming.name_of c.args.lanes.now run c.loop-lane.lane c.index-lanes-lane.result c.index-lanes-lane.result c.loop-lane.has c.in_ok-lane_has_call.field-0 c.either-has.result
    c.loop-lane-test.true c.index-lanes-lane.is (c.loop-lane.invariant run at) (c.in_ok-lane_has_call.ensures run at) c.either-has.ensures
