use Rattle.std.proofs.Common.{refl}
use Rattle.ix_machine.specs.Given as given
use Rattle.ix_lanes.specs.Calls as turn
use Rattle.ix_calls.proofs.Beside.{ended_calls, free_as}
use Rattle.ix_machine.specs.declared.event.Call.TheVariants as call
use Rattle.ix_turns.specs.Ended.{ending}
use Rattle.ix_calls.proofs.Counted.{on_ok}
use Rattle.ix_calls.proofs.builds.lease.Goals as goal

pub returns-clause-call : goal.returns-clause-call
returns-clause-call g c s p stands at =
    let old = c.args.library.now in
    let new = c.lease.new.library in
    ended_calls g.N.Naming.name_of s c.args.number p old.ledger.events new.ledger.events (g.D.Dir.state old.dir) new.ledger.kept new.shelf new.known (g.D.Dir.state new.dir) (turn.Lease c.args.names.now) (given.Lease c.args.names.now) at refl c.lease.result c.ended.result c.ended.ensures.is (c.lease.ensures.step s stands (free_as g.N.Naming.name_of old.ledger.kept s c.args.number stands.keeps (c.is_free.ensures.free c.if-not-is_free.false))) (c.lease.ensures.event)

pub returns-clause-counted : goal.returns-clause-counted
returns-clause-counted g c =
    let old = c.args.library.now in
    let new = c.lease.new.library in
    on_ok _ _ (c.calls_are_counted.ensures old.ledger.events new.ledger.events c.args.number (call.Lease c.args.names.now) (ending c.lease.result) (g.D.Dir.state old.dir) (g.D.Dir.state new.dir)
    c.lease.ensures.event c.lease.ensures.cause c.lease.ensures.finds c.lease.ensures.listings)
