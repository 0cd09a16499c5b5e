use Rattle.std.proofs.Common.{Option, IfOk, ap, subst}
use Rattle.ix_machine.specs.Given.{Given}
use Rattle.ix_replays.specs.Run.{Run}
use Rattle.ix_model_run.specs.Standing.{GoesOn, by_call}
use Rattle.ix_model_run.proofs.Running.{next_at}
use Rattle.ix_model_run.proofs.run.Rerun.extend.Goals as goal

pub returns-in_ok-place-in-Some : goal.returns-in_ok-place-in-Some
returns-in_ok-place-in-Some g c = λ run at.
    let name_of = g.N.Naming.name_of in
    let next = next_at name_of c.args.lanes.now run c.args.lane c.in-Some.steps.now c.in-Some.steps.now c.in_ok-place-in-Some.place.lane.progress
    c.in-Some.ensures.lookup.3.0 c.in-Some.ensures.lookup.1 (c.in_ok-place-in-Some.ensures.progress run at) in
    subst (λ (o : Option Run). IfOk c.step.result (λ made. GoesOn c.step.new.self made o)) (ap (λ (o : Option Given). by_call name_of run c.args.lane c.args.flag o) next) (c.step.ensures run at)
