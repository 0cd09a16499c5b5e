use Rattle.ix_model_run.specs.Standing.{tasks_of_each}
use Rattle.ix_model_run.proofs.Running.{differing}
use Rattle.ix_model_run.proofs.run.Rerun.run.Goals as goal

pub returns-then-order-flags : goal.returns-then-order-flags
returns-then-order-flags g c = λ run at.
    differing g.N.Naming.name_of (tasks_of_each g.N.Naming.name_of c.args.lanes.now) run c.args.order.now c.args.flags.now c.if-order-flags.true
