use Rattle.std.proofs.Common.{arith}
use Rattle.std.proofs.lemmas.Option.{slice_get_past}
use Rattle.ix_replay.proofs.Leaving.{left_together, ok_goes}
use Rattle.ix_replay.proofs.runner.RunnerStepper.step.Goals as goal

pub returns-else-lane-len-clause-step : goal.returns-else-lane-len-clause-step
returns-else-lane-len-clause-step g c first start lanes run r left =
    let count = r.count in
    let past = c.if-lane-len.false in
    let all = c.len.ensures in
    let whole = c.args.self.now.seats.ok.0 in
    (run, c.calls_are_steps.ensures.absent g.N.Naming.name_of lanes run c.args.lane (slice_get_past lanes c.args.lane (omega (arith, count, past, all, whole))), r, left)

pub returns-then-lane-len-clause-step : goal.returns-then-lane-len-clause-step
returns-then-lane-len-clause-step g c first start lanes run r left =
    ok_goes c.step.result _ _ (λ made n. (
      n.0,
      n.1,
      n.2,
      left_together c.steps_join.ensures.leaves g.N.Naming.name_of start run n.0 (g.D.Dir.state first.library.dir).moves (g.D.Dir.state c.args.self.now.library.dir).moves (g.D.Dir.state c.step.new.self.library.dir).moves left n.3,
    ))
    (c.step.ensures.step lanes run r)
