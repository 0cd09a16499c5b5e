use Rattle.std.proofs.Common.{ap, ◌∙◌, length, Result, Err, ◌≡◌}
use Rattle.ix_dir.specs.State.{DirState}
use Rattle.ix_ledger.specs.Books.{Books}
use Rattle.ix_ledger.specs.Effects.{opened}
use Rattle.ix_machine.specs.Needs.{seen_at}
use Rattle.ix_library.specs.LookEndings.{scan_flag, kept_behind_scan}
use Rattle.ix_library.proofs.Freshness.{FreshLaws}
use Rattle.ix_library.proofs.Scanning.{there_units, knows_current, scan_ends, scan_fails, scan_again, made_leads, made_fresh, made_values}
use Rattle.ix_library.proofs.library.Library.scan.Goals as goal

same_err : {X E : Type 0} {a b : E} → ◌≡◌ {A = Result X E} (Err a) (Err b) → a ≡ b
same_err is = cc

pub look-looked-requires : goal.look-looked-requires
look-looked-requires g c =
    there_units g.N.Naming.name_of c.args.self.now.ledger.kept c.args.self.now.shelf c.args.self.now.known (g.D.Dir.state c.args.self.now.dir)
    (λ s moves holds. c.what_is_held_may_be_looked_at.ensures.units g.N.Naming.name_of s c.args.self.now.shelf moves holds) c.requires

pub returns-in-Ok-clause-step : goal.returns-in-Ok-clause-step
returns-in-Ok-clause-step g c s stands =
    scan_ends c.given.ensures g.N.Naming.name_of s c.args.lane c.args.self.now.ledger.kept c.end_scan.new.ledger.kept c.args.self.now.known c.end_scan.new.known c.args.self.now.shelf (g.D.Dir.state c.args.self.now.dir) (g.D.Dir.state c.look-looked.new.dir)
    stands (record { moves = ap (λ (d : DirState). d.moves) c.look-looked.ensures.state; slots = ap (λ (d : DirState). d.slots) c.look-looked.ensures.state })
    c.each_step_is_the_machines.ensures.scan_made c.in-Ok.looked.scanned.stamps (c.in-Ok.ensures.stamps s c.args.self.now.shelf stands.holds)
    (ap (λ (b : Books). b.kept) c.end_scan.ensures.ledger ∙ ap (λ (b : Books). opened b.kept c.args.lane) c.look-looked.ensures.ledger) c.end_scan.ensures.known
    c.end_scan.result c.look-looked.new.ledger.kept.published c.in-Ok.looked.scanned.batch c.in-Ok.looked.fresh c.end_scan.ensures.scan (ap (λ (b : Books). b.kept.published) c.look-looked.ensures.ledger)

pub returns-in-Ok-clause-leads : goal.returns-in-Ok-clause-leads
returns-in-Ok-clause-leads g c s stands =
    let old = c.args.self.now in
    let dir = g.D.Dir.state old.dir in
    made_leads g.N.Naming.name_of s old.ledger.kept old.shelf old.known dir stands
    c.end_scan.result c.look-looked.new.ledger.kept.published c.in-Ok.looked.scanned.batch c.in-Ok.looked.fresh c.end_scan.ensures.scan (ap (λ (b : Books). b.kept.published) c.look-looked.ensures.ledger)
    (c.in-Ok.ensures.leads s old.shelf (seen_at s s.current) stands.holds (knows_current g.N.Naming.name_of s old.ledger.kept old.shelf old.known dir stands))

pub returns-in-Ok-clause-fresh : goal.returns-in-Ok-clause-fresh
returns-in-Ok-clause-fresh g c s stands =
    let old = c.args.self.now in
    let dir = g.D.Dir.state old.dir in
    let laws : FreshLaws = record { fresh = c.fresh_names_are_those.ensures; brought = c.a_batch_brings_what_is_new.ensures.brought; needed = c.a_batch_brings_what_is_new.ensures.needed } in
    made_fresh g.N.Naming.name_of s old.ledger.kept old.shelf old.known dir stands
    c.end_scan.result c.look-looked.new.ledger.kept.published c.in-Ok.looked.scanned.batch c.in-Ok.looked.fresh c.end_scan.ensures.scan (ap (λ (b : Books). b.kept.published) c.look-looked.ensures.ledger)
    laws (c.in-Ok.ensures.leads s old.shelf (seen_at s s.current) stands.holds (knows_current g.N.Naming.name_of s old.ledger.kept old.shelf old.known dir stands))
    (c.the_latest_publication_stands.ensures.rises s.publications (length s.publications)) c.in-Ok.ensures.fresh

pub returns-in-Ok-clause-values : goal.returns-in-Ok-clause-values
returns-in-Ok-clause-values g c s stands =
    let old = c.args.self.now in
    made_values g.N.Naming.name_of s old.ledger.kept old.shelf old.known (g.D.Dir.state old.dir) stands
    c.end_scan.result c.look-looked.new.ledger.kept.published c.in-Ok.looked.scanned.batch c.in-Ok.looked.fresh c.end_scan.ensures.scan (ap (λ (b : Books). b.kept.published) c.look-looked.ensures.ledger)
    c.records_that_stand_have_one_value.ensures.one

pub returns-in-Err-clause-step : goal.returns-in-Err-clause-step
returns-in-Err-clause-step g c s stands =
    let error = c.in-Err.error in
    scan_fails c.given.ensures g.N.Naming.name_of s c.args.lane c.args.self.now.ledger.kept c.end_failed_scan.new.ledger.kept c.args.self.now.known c.end_failed_scan.new.known c.args.self.now.shelf (g.D.Dir.state c.args.self.now.dir) (g.D.Dir.state c.look-looked.new.dir)
    stands (record { moves = ap (λ (d : DirState). d.moves) c.look-looked.ensures.state; slots = ap (λ (d : DirState). d.slots) c.look-looked.ensures.state })
    c.each_step_is_the_machines.ensures.scan_failed error
    (c.end_failed_scan.ensures.kept ∙ ap (λ (b : Books). kept_behind_scan (scan_flag error) b.kept) c.look-looked.ensures.ledger) c.end_failed_scan.ensures.known

pub returns-in-Err-clause-again : goal.returns-in-Err-clause-again
returns-in-Err-clause-again g c s stands is =
    let error = c.in-Err.error in
    scan_again g.N.Naming.name_of s c.args.self.now.ledger.kept c.end_failed_scan.new.ledger.kept c.args.self.now.known c.end_failed_scan.new.known c.args.self.now.shelf (g.D.Dir.state c.args.self.now.dir) (g.D.Dir.state c.look-looked.new.dir) error
    (record { moves = ap (λ (d : DirState). d.moves) c.look-looked.ensures.state; slots = ap (λ (d : DirState). d.slots) c.look-looked.ensures.state })
    (c.end_failed_scan.ensures.kept ∙ ap (λ (b : Books). kept_behind_scan (scan_flag error) b.kept) c.look-looked.ensures.ledger) c.end_failed_scan.ensures.known (same_err is) stands
