use Rattle.std.proofs.Common.{refl}
use Rattle.ix_machine.specs.Given as given
use Rattle.ix_lanes.specs.Calls as turn
use Rattle.ix_calls.proofs.Beside.{ended_calls}
use Rattle.ix_machine.specs.declared.event.Call.TheVariants as call
use Rattle.ix_turns.specs.Ended.{ending}
use Rattle.ix_calls.proofs.Counted.{on_ok}
use Rattle.ix_calls.proofs.others.collect.Goals as goal

pub returns-clause-call : goal.returns-clause-call
returns-clause-call g c s p stands at =
    let old = c.args.library.now in
    let new = c.collect.new.library in
    ended_calls g.N.Naming.name_of s c.args.number p old.ledger.events new.ledger.events (g.D.Dir.state old.dir) new.ledger.kept new.shelf new.known (g.D.Dir.state new.dir) turn.Collect given.Collect at refl c.collect.result c.ended.result c.ended.ensures.is (c.collect.ensures.step s stands) (c.collect.ensures.event)

pub returns-clause-counted : goal.returns-clause-counted
returns-clause-counted g c =
    let old = c.args.library.now in
    let new = c.collect.new.library in
    on_ok _ _ (c.calls_are_counted.ensures old.ledger.events new.ledger.events c.args.number call.Collect (ending c.collect.result) (g.D.Dir.state old.dir) (g.D.Dir.state new.dir)
    c.collect.ensures.event c.collect.ensures.cause c.collect.ensures.finds c.collect.ensures.listings)
