use Rattle.std.proofs.Common.{refl}
use Rattle.ix_machine.specs.Given as given
use Rattle.ix_lanes.specs.Calls as turn
use Rattle.ix_calls.proofs.Beside.{ended_calls}
use Rattle.ix_machine.specs.declared.event.Call.TheVariants as call
use Rattle.ix_turns.specs.Ended.{ending}
use Rattle.ix_calls.proofs.Counted.{on_ok}
use Rattle.ix_calls.proofs.others.remove.Goals as goal

pub returns-clause-call : goal.returns-clause-call
returns-clause-call g c s p stands at =
    let old = c.args.library.now in
    let new = c.remove.new.library in
    ended_calls g.N.Naming.name_of s c.args.number p old.ledger.events new.ledger.events (g.D.Dir.state old.dir) new.ledger.kept new.shelf new.known (g.D.Dir.state new.dir) (turn.Remove c.args.output.now) (given.Remove c.args.output.now) at refl c.remove.result c.ended.result c.ended.ensures.is (c.remove.ensures.step s stands) (c.remove.ensures.event)

pub returns-clause-counted : goal.returns-clause-counted
returns-clause-counted g c =
    let old = c.args.library.now in
    let new = c.remove.new.library in
    on_ok _ _ (c.calls_are_counted.ensures old.ledger.events new.ledger.events c.args.number (call.Remove (g.N.Naming.name_of c.args.output.now)) (ending c.remove.result) (g.D.Dir.state old.dir) (g.D.Dir.state new.dir)
    c.remove.ensures.event c.remove.ensures.cause c.remove.ensures.finds c.remove.ensures.listings)
