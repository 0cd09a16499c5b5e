use Rattle.std.proofs.Common.{◌≡◌, ◌∙◌, Bool, true, false, not, is_some, Option, IfSome, refl, sym, ap, subst, Some}
use Rattle.std.specs.declared.alloc.Global.{Global}
use Rattle.std.specs.declared.sync.Arc.{Arc}
use Rattle.ix_record.specs.declared.value.RecordValue.{RecordValue}
use Rattle.ix_dir.specs.State.{counted_where}
use Rattle.ix_machine.specs.declared.event.Call.TheVariants as call
use Rattle.ix_machine.specs.declared.event.Outcome.{Outcome}
use Rattle.ix_machine.specs.declared.event.Outcome.TheVariants.{Done}
use Rattle.ix_machine.specs.Needs.{seen_at}
use Rattle.ix_looks.specs.Values.{HasValue}
use Rattle.ix_seats.specs.declared.made.Made.TheVariants.{Loaded}
use Rattle.ix_counts.specs.Counting.{is_failure}
use Rattle.ix_calls.proofs.PollCalls.{noted_by}
use Rattle.ix_calls.proofs.Asked.{failed_made, loaded_made}
use Rattle.ix_calls.proofs.others.load.Goals as goal

not_off : (b : Bool) → false ≡ not b → b ≡ true
not_off true is = refl
not_off false is = absurd (cc)

pub returns-in-Some-clause-call : goal.returns-in-Some-clause-call
returns-in-Some-clause-call g c s p query importing stands turned at =
    let old = c.args.library.now in
    let new = c.load.new.library in
    let made = c.in_ok-made.made in
    loaded_made c.records_that_stand_have_one_value.ensures.alone g.N.Naming.name_of s c.args.number p old.ledger.events new.ledger.events (g.D.Dir.state old.dir) new.ledger.kept new.shelf new.known (g.D.Dir.state new.dir) old.ledger.kept old.shelf old.known stands c.args.name query turned at.lacking at.held
    c.in-Some.body made.outcome (c.in_ok-made.ensures.step s stands at.needed) (subst (λ (o : Option (Arc RecordValue Global)). IfSome o (λ b. made.outcome ≡ Done)) c.in-Some.is c.in_ok-made.ensures.done)
    (λ mark held. subst (λ (o : Option (Arc RecordValue Global)). IfSome o (λ b. HasValue (seen_at s mark) c.args.name b.value)) c.in-Some.is (c.in_ok-made.ensures.asked s mark stands at.needed refl held)) c.in_ok-made.ensures.event

pub returns-in-None-clause-call : goal.returns-in-None-clause-call
returns-in-None-clause-call g c s p query importing stands turned at =
    let old = c.args.library.now in
    let new = c.load.new.library in
    let made = c.in_ok-made.made in
    failed_made c.records_that_stand_have_one_value.ensures.alone g.N.Naming.name_of s c.args.number p old.ledger.events new.ledger.events (g.D.Dir.state old.dir) new.ledger.kept new.shelf new.known (g.D.Dir.state new.dir) old.ledger.kept old.shelf old.known stands c.args.name query turned at.lacking at.held
    made.outcome (c.in_ok-made.ensures.step s stands at.needed) (not_off _ (sym (ap (λ (o : Option (Arc RecordValue Global)). is_some o) c.in-None.is) ∙ c.in_ok-made.ensures.found)) c.in_ok-made.ensures.event

pub returns-in-Some-clause-event : goal.returns-in-Some-clause-event
returns-in-Some-clause-event g c =
    let made = c.in_ok-made.made in
    noted_by c.args.library.now.ledger.events c.load.new.library.ledger.events c.args.number (call.Load c.args.name) made.outcome (Loaded c.args.name c.in-Some.body)
    (sym (subst (λ (o : Option (Arc RecordValue Global)). IfSome o (λ b. made.outcome ≡ Done)) c.in-Some.is c.in_ok-made.ensures.done)) c.in_ok-made.ensures.event

pub returns-in-None-clause-event : goal.returns-in-None-clause-event
returns-in-None-clause-event g c = (call.Load c.args.name, c.in_ok-made.ensures.event)

pub returns-in-Some-clause-cause : goal.returns-in-Some-clause-cause
returns-in-Some-clause-cause g c =
    let made = c.in_ok-made.made in
    c.in_ok-made.ensures.cause
    ∙ ap (λ (how : Outcome). counted_where (is_failure how) (g.D.Dir.state c.args.library.now.dir).faults) (subst (λ (o : Option (Arc RecordValue Global)). IfSome o (λ b. made.outcome ≡ Done)) c.in-Some.is c.in_ok-made.ensures.done)

pub returns-in-Some-clause-counted : goal.returns-in-Some-clause-counted
returns-in-Some-clause-counted g c =
    let old = c.args.library.now in
    let new = c.load.new.library in
    c.calls_are_counted.ensures old.ledger.events new.ledger.events c.args.number (call.Load c.args.name) (Some c.in_ok-made.made.outcome) (g.D.Dir.state old.dir) (g.D.Dir.state new.dir)
    c.in_ok-made.ensures.event c.in_ok-made.ensures.cause c.in_ok-made.ensures.finds c.in_ok-made.ensures.listings

pub returns-in-None-clause-counted : goal.returns-in-None-clause-counted
returns-in-None-clause-counted g c =
    let old = c.args.library.now in
    let new = c.load.new.library in
    c.calls_are_counted.ensures old.ledger.events new.ledger.events c.args.number (call.Load c.args.name) (Some c.in_ok-made.made.outcome) (g.D.Dir.state old.dir) (g.D.Dir.state new.dir)
    c.in_ok-made.ensures.event c.in_ok-made.ensures.cause c.in_ok-made.ensures.finds c.in_ok-made.ensures.listings
