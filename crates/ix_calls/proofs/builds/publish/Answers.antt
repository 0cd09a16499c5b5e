use Rattle.std.proofs.Common.{refl, ap, ◌∙◌}
use Rattle.ix_machine.specs.Given as given
use Rattle.ix_lanes.specs.Calls as turn
use Rattle.ix_machine.specs.declared.event.Call.{Call}
use Rattle.ix_library.specs.Endings.{with_event, publish_name}
use Rattle.ix_turns.specs.Ended.{ending}
use Rattle.ix_calls.proofs.Beside.{ended_calls, published_as}
use Rattle.ix_machine.specs.declared.event.Call.TheVariants as call
use Rattle.ix_calls.proofs.Counted.{on_ok}
use Rattle.ix_calls.proofs.builds.publish.Goals as goal

pub returns-clause-call : goal.returns-clause-call
returns-clause-call g c s p stands at =
    let old = c.args.library.now in
    let new = c.publish.new.library in
    ended_calls g.N.Naming.name_of s c.args.number p old.ledger.events new.ledger.events (g.D.Dir.state old.dir) new.ledger.kept new.shelf new.known (g.D.Dir.state new.dir) turn.Publish given.Publish at refl c.publish.result c.ended.result c.ended.ensures.is (c.publish.ensures.step s stands) (c.publish.ensures.event ∙ ap (λ (called : Call). with_event old.ledger.events c.args.number called (ending c.publish.result)) (published_as g.N.Naming.name_of old.ledger.kept s c.args.number stands.keeps))

pub returns-clause-counted : goal.returns-clause-counted
returns-clause-counted g c =
    let old = c.args.library.now in
    let new = c.publish.new.library in
    on_ok _ _ (c.calls_are_counted.ensures old.ledger.events new.ledger.events c.args.number (call.Publish (publish_name g.N.Naming.name_of old.ledger.kept c.args.number)) (ending c.publish.result) (g.D.Dir.state old.dir) (g.D.Dir.state new.dir)
    c.publish.ensures.event c.publish.ensures.cause c.publish.ensures.finds c.publish.ensures.listings)
