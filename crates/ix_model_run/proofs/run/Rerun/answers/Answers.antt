use Rattle.ix_model_run.proofs.Running.{answers_on}
use Rattle.ix_model_run.proofs.run.Rerun.answers.Goals as goal

pub loop-lane-preserved : goal.loop-lane-preserved
loop-lane-preserved g c = λ run at.
    answers_on g.N.Naming.name_of c.args.lanes.now run c.loop-lane.lane c.index-lanes-lane.result c.index-lanes-lane.result c.loop-lane.answers.items c.push.new.self.items c.in_ok-lane_answers.field-0
    c.loop-lane-test.true c.index-lanes-lane.is (c.loop-lane.invariant run at) (c.in_ok-lane_answers.ensures run at) c.in_ok-push.ensures.items
