use Rattle.std.proofs.Common.{ap, ◌∙◌, Some}
use Rattle.ix_tables.specs.declared.tables.Version.{Version}
use Rattle.ix_polls.proofs.Turning.{adopt_polls}
use Rattle.ix_machine.specs.declared.event.Call.TheVariants as call
use Rattle.ix_polls.proofs.polls.adopt.Goals as goal

pub returns-clause-step : goal.returns-clause-step
returns-clause-step g c s p stands imports turned =
    let old = c.args.library.now in
    let new = c.adopt.new.library in
    let current = c.in_ok-current.current in
    adopt_polls c.given.ensures g.N.Naming.name_of s c.args.lane p c.args.importer.now imports (g.D.Dir.state old.dir) new.ledger.kept new.shelf new.known (g.D.Dir.state new.dir) c.in_ok-outcome.outcome
    turned (c.in_ok-outcome.ensures.step s stands) current.value
    (ap (λ (v : Version). v.number) c.in_ok-current.ensures ∙ c.version.ensures.number) (ap (λ (v : Version). v.tables) c.in_ok-current.ensures ∙ c.version.ensures.tables)

pub returns-clause-counted : goal.returns-clause-counted
returns-clause-counted g c =
    let old = c.args.library.now in
    let new = c.adopt.new.library in
    c.calls_are_counted.ensures old.ledger.events new.ledger.events c.args.lane call.Adopt (Some c.in_ok-outcome.outcome) (g.D.Dir.state old.dir) (g.D.Dir.state new.dir)
    c.in_ok-outcome.ensures.event c.in_ok-outcome.ensures.cause c.in_ok-outcome.ensures.finds c.in_ok-outcome.ensures.listings
