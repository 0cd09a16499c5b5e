use Rattle.ix_calls.proofs.Beside.{let_go_calls}
use Rattle.ix_machine.specs.declared.event.Call.TheVariants as call
use Rattle.ix_turns.specs.Ended.{ending}
use Rattle.ix_calls.proofs.Counted.{on_ok}
use Rattle.ix_calls.proofs.others.release.Goals as goal

pub returns-clause-call : goal.returns-clause-call
returns-clause-call g c s p stands at =
    let old = c.args.library.now in
    let new = c.release.new.library in
    let_go_calls g.N.Naming.name_of s c.args.number p old.ledger.events new.ledger.events (g.D.Dir.state old.dir) new.ledger.kept new.shelf new.known (g.D.Dir.state new.dir) at c.release.result c.let_go.result c.let_go.ensures.is (c.release.ensures.step s stands) c.release.ensures.event

pub returns-clause-counted : goal.returns-clause-counted
returns-clause-counted g c =
    let old = c.args.library.now in
    let new = c.release.new.library in
    on_ok _ _ (c.calls_are_counted.ensures old.ledger.events new.ledger.events c.args.number call.Release (ending c.release.result) (g.D.Dir.state old.dir) (g.D.Dir.state new.dir)
    c.release.ensures.event c.release.ensures.cause c.release.ensures.finds c.release.ensures.listings)
