use Rattle.ix_polls.proofs.Turning.{install_polls}
use Rattle.std.proofs.Common.{Some}
use Rattle.ix_machine.specs.declared.event.Call.TheVariants as call
use Rattle.ix_polls.proofs.polls.install.Goals as goal

pub returns-clause-step : goal.returns-clause-step
returns-clause-step g c s p stands imports way turned =
    let old = c.args.library.now in
    let new = c.install.new.library in
    let version = c.in_ok-version.version.value in
    install_polls c.given.ensures g.N.Naming.name_of s c.args.lane p c.args.importer.now imports (g.D.Dir.state old.dir) new.ledger.kept new.shelf new.known (g.D.Dir.state new.dir) c.in_ok-outcome.outcome
    turned way c.requires (c.in_ok-outcome.ensures.step s stands) version c.finish.new.self
    c.in_ok-version.ensures.mark c.in_ok-version.ensures.number c.in_ok-version.ensures.known c.in_ok-version.ensures.closed c.in_ok-version.ensures.follows

pub returns-clause-counted : goal.returns-clause-counted
returns-clause-counted g c =
    let old = c.args.library.now in
    let new = c.install.new.library in
    c.calls_are_counted.ensures old.ledger.events new.ledger.events c.args.lane call.Install (Some c.in_ok-outcome.outcome) (g.D.Dir.state old.dir) (g.D.Dir.state new.dir)
    c.in_ok-outcome.ensures.event c.in_ok-outcome.ensures.cause c.in_ok-outcome.ensures.finds c.in_ok-outcome.ensures.listings
