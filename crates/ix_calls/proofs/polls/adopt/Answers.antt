use Rattle.std.proofs.Common.{refl, sym, subst, ap, ◌∙◌}
use Rattle.ix_dir.specs.State.{counted_where}
use Rattle.ix_machine.specs.declared.event.Outcome.{Outcome}
use Rattle.ix_machine.specs.declared.event.Call.TheVariants as call
use Rattle.ix_machine.specs.Given as given
use Rattle.ix_lanes.specs.Calls as turn
use Rattle.ix_seats.specs.declared.made.Made.{Made}
use Rattle.ix_counts.specs.Counting.{is_failure}
use Rattle.ix_calls.specs.Turns.{IsCall}
use Rattle.ix_calls.proofs.PollCalls.{noted_by, polled_call}
use Rattle.ix_calls.proofs.polls.adopt.Goals as goal

pub returns-clause-call : goal.returns-clause-call
returns-clause-call g c s p wanted stands turned at =
    let old = c.args.library.now in
    let new = c.adopt.new.library in
    let polled = c.in_ok-polled.polled in
    subst (λ (m : Made). IsCall g.N.Naming.name_of s c.args.number p old.ledger.events (g.D.Dir.state old.dir) m new.ledger.events new.ledger.kept new.shelf new.known (g.D.Dir.state new.dir) c.args.importer.now c.args.importer.now) (sym c.made_of.ensures.is)
    (polled_call c.the_latest_publication_stands.ensures.rises g.N.Naming.name_of s c.args.number p old.ledger.events new.ledger.events (g.D.Dir.state old.dir) new.ledger.kept new.shelf new.known (g.D.Dir.state new.dir) c.args.importer.now c.args.importer.now
    turn.Adopt turned refl given.Adopt polled.outcome polled.version (c.in_ok-polled.ensures.step s p stands at.imports turned) (c.in_ok-polled.ensures.event) (λ leaves. refl))

pub returns-clause-event : goal.returns-clause-event
returns-clause-event g c =
    noted_by c.args.library.now.ledger.events c.adopt.new.library.ledger.events c.args.number call.Adopt c.in_ok-polled.polled.outcome c.made_of.result c.made_of.ensures.outcome c.in_ok-polled.ensures.event

pub returns-clause-cause : goal.returns-clause-cause
returns-clause-cause g c =
    c.in_ok-polled.ensures.cause ∙ ap (λ (how : Outcome). counted_where (is_failure how) (g.D.Dir.state c.args.library.now.dir).faults) (sym c.made_of.ensures.outcome)
