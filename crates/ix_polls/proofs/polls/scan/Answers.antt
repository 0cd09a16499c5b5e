use Rattle.std.proofs.Common.{None, sym, subst, Some}
use Rattle.ix_machine.specs.Given as given
use Rattle.ix_import.specs.Importing.{Importing}
use Rattle.ix_polls.specs.Polling.{Polls}
use Rattle.ix_polls.proofs.Turning.{scan_polls}
use Rattle.ix_machine.specs.declared.event.Call.TheVariants as call
use Rattle.ix_polls.proofs.polls.scan.Goals as goal

pub returns-clause-step : goal.returns-clause-step
returns-clause-step g c s p stands imports turned =
    let made = c.in_ok-made.made in
    let old = c.args.library.now in
    let new = c.scan.new.library in
    subst (λ (i : Importing). Polls g.N.Naming.name_of s c.args.lane p given.Scan made.outcome None (g.D.Dir.state old.dir) new.ledger.kept new.shelf new.known (g.D.Dir.state new.dir) i) (sym c.follow.ensures)
    (scan_polls c.given.ensures g.N.Naming.name_of s c.args.lane p c.args.importer.now imports (g.D.Dir.state old.dir) new.ledger.kept new.shelf new.known (g.D.Dir.state new.dir) made.outcome
    (c.in_ok-made.ensures.step s stands) turned stands.keeps.sound.needed.visible_ones made.scan c.in_ok-made.ensures.found c.in_ok-made.ensures.mark
    (c.in_ok-made.ensures.leads s stands) (c.in_ok-made.ensures.fresh s stands) (c.in_ok-made.ensures.values s stands))

pub returns-clause-counted : goal.returns-clause-counted
returns-clause-counted g c =
    let old = c.args.library.now in
    let new = c.scan.new.library in
    c.calls_are_counted.ensures old.ledger.events new.ledger.events c.args.lane call.Scan (Some c.in_ok-made.made.outcome) (g.D.Dir.state old.dir) (g.D.Dir.state new.dir)
    c.in_ok-made.ensures.event c.in_ok-made.ensures.cause c.in_ok-made.ensures.finds c.in_ok-made.ensures.listings
