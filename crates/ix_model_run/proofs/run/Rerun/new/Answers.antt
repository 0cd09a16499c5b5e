use Rattle.std.proofs.Common.{ℕ, length, ap, ◌∙◌}
use Rattle.ix_machine.specs.PlainOpened.{opening_of}
use Rattle.ix_machine.specs.Run.{begun}
use Rattle.ix_model_run.proofs.Beginning.{begins}
use Rattle.ix_model_run.proofs.run.Rerun.new.Goals as goal

pub returns : goal.returns
returns c = λ name_of script e. record {
  events = c.new.ensures.items;
  state = c.in_ok-new.ensures.begun ∙ ap (λ (n : ℕ). begun (opening_of c.args.opened.now) n) e;
  follows = begins (opening_of c.args.opened.now) c.args.lanes (length script.lanes) c.in_ok-new-2.field-0 e c.in_ok-new-2.ensures;
}
