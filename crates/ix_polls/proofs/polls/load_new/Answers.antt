use Rattle.std.proofs.Common.{◌≡◌, ◌∙◌, Bool, true, false, Option, Some, None, IfSome, is_some, refl, sym, ap, subst}
use Rattle.ix_dir.specs.State.{counted_where}
use Rattle.ix_machine.specs.declared.event.Purpose.TheVariants as purpose
use Rattle.ix_machine.specs.Given as given
use Rattle.ix_import.specs.Importing.{Importing}
use Rattle.ix_counts.specs.Counting.{is_failure}
use Rattle.ix_polls.specs.Polling.{Polls}
use Rattle.ix_polls.proofs.Follows.{may_load}
use Rattle.ix_polls.proofs.Turning.{load_polls}
use Rattle.ix_machine.specs.declared.event.Call.TheVariants as call
use Rattle.ix_polls.proofs.polls.load_new.Goals as goal

pub returns-in-Ok-clause-step : goal.returns-in-Ok-clause-step
returns-in-Ok-clause-step g c s p stands imports way turned =
    let made = c.in_ok-made.made in
    let old = c.args.library.now in
    let new = c.load.new.library in
    let may = may_load c.given.ensures s c.args.importer.now imports c.args.name c.requires.next in
    subst (λ (i : Importing). Polls g.N.Naming.name_of s c.args.lane p (given.Load c.args.name purpose.Import) made.outcome None (g.D.Dir.state old.dir) new.ledger.kept new.shelf new.known (g.D.Dir.state new.dir) i) (sym c.in-Ok.ensures.ok)
    (load_polls c.given.ensures g.N.Naming.name_of s c.args.lane p c.args.importer.now imports (g.D.Dir.state old.dir) new.ledger.kept new.shelf new.known (g.D.Dir.state new.dir) made.outcome
    turned way c.args.name c.requires.next (c.in_ok-made.ensures.step s stands may) made.body (λ b. b.value) c.in_ok-made.ensures.found c.in_ok-made.ensures.done stands.keeps.sound.needed.imported
    (λ j at. c.in_ok-made.ensures.imported s j stands may refl at))

there : {A : Type 0} (o : Option A) (P : Type 0) → is_some o ≡ true → IfSome o (λ _. P) → P
there None P e p = absurd (cc)
there (Some x) P e p = p

pub returns-in-Err-clause-cause : goal.returns-in-Err-clause-cause
returns-in-Err-clause-cause g c =
    c.in_ok-made.ensures.cause
    ∙ ap (λ (b : Bool). counted_where b (g.D.Dir.state c.args.library.now.dir).faults) (ap is_failure (there c.in_ok-made.made.body _ c.in-Err.ensures.err c.in_ok-made.ensures.done))

-- a load that is made leaves the state
pub returns-in-Err-clause-again : goal.returns-in-Err-clause-again
returns-in-Err-clause-again g c s stands = there c.in_ok-made.made.body _ c.in-Err.ensures.err (c.in_ok-made.ensures.stays s stands)

pub returns-in-Ok-clause-counted : goal.returns-in-Ok-clause-counted
returns-in-Ok-clause-counted g c =
    let old = c.args.library.now in
    let new = c.load.new.library in
    c.calls_are_counted.ensures old.ledger.events new.ledger.events c.args.lane (call.Load c.args.name) (Some c.in_ok-made.made.outcome) (g.D.Dir.state old.dir) (g.D.Dir.state new.dir)
    c.in_ok-made.ensures.event c.in_ok-made.ensures.cause c.in_ok-made.ensures.finds c.in_ok-made.ensures.listings
