use Rattle.std.proofs.Common.{Some, refl, sym, ap, ◌∙◌}
use Rattle.ix_unit.specs.declared.value.UnitValue.{UnitValue}
use Rattle.ix_machine.specs.Given as given
use Rattle.ix_lanes.specs.Calls as turn
use Rattle.ix_calls.proofs.Beside.{ended_calls}
use Rattle.ix_machine.specs.declared.event.Call.TheVariants as call
use Rattle.ix_turns.specs.Ended.{ending}
use Rattle.ix_calls.proofs.Counted.{on_ok}
use Rattle.ix_calls.proofs.builds.stage.Goals as goal

-- the handle is one of the same unit
pub returns-clause-call : goal.returns-clause-call
returns-clause-call g c s p stands at =
    let old = c.args.library.now in
    let new = c.stage.new.library in
    let unit = c.in_ok-handle.handle.value in
    ended_calls g.N.Naming.name_of s c.args.number p old.ledger.events new.ledger.events (g.D.Dir.state old.dir) new.ledger.kept new.shelf new.known (g.D.Dir.state new.dir) (turn.Stage unit) (given.Stage unit) (at ∙ ap (λ (u : UnitValue). Some (turn.Stage u)) (sym c.in_ok-handle.ensures)) refl c.stage.result c.ended.result c.ended.ensures.is (c.stage.ensures.step s stands) (c.stage.ensures.event)

pub returns-clause-counted : goal.returns-clause-counted
returns-clause-counted g c =
    let old = c.args.library.now in
    let new = c.stage.new.library in
    on_ok _ _ (c.calls_are_counted.ensures old.ledger.events new.ledger.events c.args.number (call.Stage (g.N.Naming.name_of c.in_ok-handle.handle.value.output)) (ending c.stage.result) (g.D.Dir.state old.dir) (g.D.Dir.state new.dir)
    c.stage.ensures.event c.stage.ensures.cause c.stage.ensures.finds c.stage.ensures.listings)
