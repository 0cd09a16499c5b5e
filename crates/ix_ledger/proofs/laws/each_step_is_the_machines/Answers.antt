use Rattle.std.proofs.Common.{◌≡◌, ℕ, true, false, Some, None, length, refl, sym, ap, subst, ◌∙◌}
use Rattle.std.specs.BTreeMap.{insert_entry}
use Rattle.std.specs.Map.{keys_of}
use Rattle.ix_types.specs.Row.{text_cmp}
use Rattle.ix_model.specs.declared.publication.Publication.TheVariants as model
use Rattle.ix_machine.specs.declared.event.Outcome.TheVariants.{Done, Written, Shared, Clash, Synced, Unsynced, NoUnit, At, Removed, Nothing, Fault}
use Rattle.ix_machine.specs.Given.{Lease, Put, Stage, Publish, Remove, Scan, Load, Install, Adopt, Release, Collect}
use Rattle.ix_machine.specs.Laws.{AreNamed}
use Rattle.ix_machine.specs.Needs.{visible, settled}
use Rattle.ix_machine.specs.State.{State}
use Rattle.ix_machine.specs.Step.{ended, noted, dropped, publishing, stored_unit, scan, unopened, load_failed, adopt}
use Rattle.ix_guard.specs.Guarding.{Guarding}
use Rattle.ix_guard.specs.Protection.{IsFirstLoose}
use Rattle.ix_ledger.specs.Effects as effect
use Rattle.ix_ledger.specs.Kept.{Kept}
use Rattle.ix_ledger.specs.OfState.{kept_of}
use Rattle.ix_ledger.proofs.Making.{make, some_same, may_put, put_written, put_shared, put_clashed, marks_stay, named_with, named_without, may_publish, publish_step, clash_step, publish_keeps, remove_step, refuse_step, remove_keeps, scan_fails, load_fails, load_keeps, load_named, install_step, nothing_step, removed_step}
use Rattle.ix_ledger.proofs.laws.each_step_is_the_machines.Goals as goal

pub returns-clause-opens : goal.returns-clause-opens
returns-clause-opens c name_of opening lanes sound rises named =
    record {
      is = sym (c.the_ledger_follows_the_machine.ensures.begins opening lanes rises);
      sound = c.every_state_is_sound.ensures.begins name_of opening lanes sound;
      named = subst (AreNamed name_of) (sym (c.a_run_begins_with_what_is_found.ensures.units opening lanes rises)) named;
    }

pub returns-clause-leases : goal.returns-clause-leases
returns-clause-leases c name_of s lane kept names keeps free =
    make c.every_state_is_sound.ensures.goes_on name_of s _ lane (Lease names) Done Done (effect.leased kept lane names) keeps.sound free refl
    (ap (λ (k : Kept). effect.leased k lane names) keeps.is ∙ sym (c.the_ledger_follows_the_machine.ensures.leases s lane names))
    keeps.named

pub returns-clause-put_written : goal.returns-clause-put_written
returns-clause-put_written c name_of s next lane kept body keeps may taken =
    let is_next : noted (record s { records = insert_entry text_cmp s.records body.name body.bytes }) lane body.name ≡ next = put_written s next lane body (some_same taken) in
    make c.every_state_is_sound.ensures.goes_on name_of s next lane (Put body) Done Written (effect.noted kept lane body.name) keeps.sound may taken
    (ap (λ (k : Kept). effect.noted k lane body.name) keeps.is ∙ (sym (c.the_ledger_follows_the_machine.ensures.notes (record s { records = insert_entry text_cmp s.records body.name body.bytes }) lane body.name (may_put name_of s lane body may)) ∙ ap kept_of is_next))
    (subst (λ (t : State). AreNamed name_of (visible t)) is_next keeps.named)

pub returns-clause-put_shared : goal.returns-clause-put_shared
returns-clause-put_shared c name_of s next lane kept body keeps may taken =
    let is_next : noted s lane body.name ≡ next = put_shared s next lane body (some_same taken) in
    make c.every_state_is_sound.ensures.goes_on name_of s next lane (Put body) Done Shared (effect.noted kept lane body.name) keeps.sound may taken
    (ap (λ (k : Kept). effect.noted k lane body.name) keeps.is ∙ (sym (c.the_ledger_follows_the_machine.ensures.notes s lane body.name (may_put name_of s lane body may)) ∙ ap kept_of is_next))
    (subst (λ (t : State). AreNamed name_of (visible t)) is_next keeps.named)

pub returns-clause-put_clashed : goal.returns-clause-put_clashed
returns-clause-put_clashed c name_of s next lane kept body keeps may taken =
    let is_next : dropped s lane ≡ next = put_clashed s next lane body (some_same taken) in
    make c.every_state_is_sound.ensures.goes_on name_of s next lane (Put body) Done Clash (effect.dropped kept lane) keeps.sound may taken
    (ap (λ (k : Kept). effect.dropped k lane) keeps.is ∙ (sym (c.the_ledger_follows_the_machine.ensures.drops s lane) ∙ ap kept_of is_next))
    (subst (λ (t : State). AreNamed name_of (visible t)) is_next keeps.named)

pub returns-clause-put_failed : goal.returns-clause-put_failed
returns-clause-put_failed c name_of s lane kept body keeps may =
    make c.every_state_is_sound.ensures.goes_on name_of s (dropped s lane) lane (Put body) Fault Fault (effect.dropped kept lane) keeps.sound may (c.puts_and_stages_may_fail.ensures.put name_of s lane body)
    (ap (λ (k : Kept). effect.dropped k lane) keeps.is ∙ sym (c.the_ledger_follows_the_machine.ensures.drops s lane))
    keeps.named

pub returns-clause-stage_made : goal.returns-clause-stage_made
returns-clause-stage_made c name_of s lane kept unit keeps may =
    make c.every_state_is_sound.ensures.goes_on name_of s _ lane (Stage unit) Done Done (effect.staging kept lane unit) keeps.sound may refl
    (ap (λ (k : Kept). effect.staging k lane unit) keeps.is ∙ sym (c.the_ledger_follows_the_machine.ensures.stages s lane unit may.0 may.1))
    keeps.named

pub returns-clause-stage_failed : goal.returns-clause-stage_failed
returns-clause-stage_failed c name_of s lane kept unit keeps may =
    make c.every_state_is_sound.ensures.goes_on name_of s (dropped s lane) lane (Stage unit) Fault Fault (effect.dropped kept lane) keeps.sound may (c.puts_and_stages_may_fail.ensures.stage name_of s lane unit)
    (ap (λ (k : Kept). effect.dropped k lane) keeps.is ∙ sym (c.the_ledger_follows_the_machine.ensures.drops s lane))
    keeps.named

pub returns-clause-publish_made : goal.returns-clause-publish_made
returns-clause-publish_made c name_of s lane kept unit change keeps staged is =
    make c.every_state_is_sound.ensures.goes_on name_of s (publishing (dropped s lane) (model.Put (name_of unit.output) (stored_unit s unit)) None) lane Publish Done Synced (effect.changed (effect.dropped kept lane) change false) keeps.sound (may_publish name_of s lane kept unit keeps staged) (publish_step name_of s lane kept unit keeps staged Done change is)
    (publish_keeps name_of s lane kept unit keeps staged false None change is (c.the_ledger_follows_the_machine.ensures.drops s lane) (c.the_ledger_follows_the_machine.ensures.changes (dropped s lane) (model.Put (name_of unit.output) (stored_unit s unit)) (marks_stay s lane keeps.sound.marks)))
    (named_with name_of (dropped s lane) keeps.named (stored_unit s unit) None)

pub returns-clause-publish_unsynced : goal.returns-clause-publish_unsynced
returns-clause-publish_unsynced c name_of s lane kept unit change keeps staged is =
    make c.every_state_is_sound.ensures.goes_on name_of s (publishing (dropped s lane) (model.Put (name_of unit.output) (stored_unit s unit)) (Some (length s.publications))) lane Publish Unsynced Unsynced (effect.changed (effect.dropped kept lane) change true) keeps.sound (may_publish name_of s lane kept unit keeps staged) (publish_step name_of s lane kept unit keeps staged Unsynced change is)
    (publish_keeps name_of s lane kept unit keeps staged true (Some (length s.publications)) change is (c.the_ledger_follows_the_machine.ensures.drops s lane) (c.the_ledger_follows_the_machine.ensures.pends (dropped s lane) (model.Put (name_of unit.output) (stored_unit s unit)) (marks_stay s lane keeps.sound.marks)))
    (named_with name_of (dropped s lane) keeps.named (stored_unit s unit) (Some (length s.publications)))

pub returns-clause-publish_failed : goal.returns-clause-publish_failed
returns-clause-publish_failed c name_of s lane kept unit change keeps staged is =
    make c.every_state_is_sound.ensures.goes_on name_of s (dropped s lane) lane Publish Fault Fault (effect.dropped kept lane) keeps.sound (may_publish name_of s lane kept unit keeps staged) (publish_step name_of s lane kept unit keeps staged Fault change is)
    (ap (λ (k : Kept). effect.dropped k lane) keeps.is ∙ sym (c.the_ledger_follows_the_machine.ensures.drops s lane))
    keeps.named

pub returns-clause-publish_clashed : goal.returns-clause-publish_clashed
returns-clause-publish_clashed c name_of s lane kept unit keeps staged is =
    make c.every_state_is_sound.ensures.goes_on name_of s (dropped s lane) lane Publish Done Clash (effect.dropped kept lane) keeps.sound (may_publish name_of s lane kept unit keeps staged) (clash_step name_of s lane kept unit keeps staged is)
    (ap (λ (k : Kept). effect.dropped k lane) keeps.is ∙ sym (c.the_ledger_follows_the_machine.ensures.drops s lane))
    keeps.named

pub returns-clause-remove_made : goal.returns-clause-remove_made
returns-clause-remove_made c name_of s lane kept output change keeps is =
    make c.every_state_is_sound.ensures.goes_on name_of s (publishing s (model.Gone (name_of output)) None) lane (Remove output) Done Synced (effect.changed kept change false) keeps.sound tt (remove_step name_of s lane kept output keeps (c.the_latest_publication_stands.ensures.rises s.publications (length s.publications)) Done change is)
    (remove_keeps name_of s lane kept output keeps (c.the_latest_publication_stands.ensures.rises s.publications (length s.publications)) false None change is (c.the_ledger_follows_the_machine.ensures.changes s (model.Gone (name_of output)) keeps.sound.marks))
    (named_without name_of s keeps.named (name_of output) None)

pub returns-clause-remove_unsynced : goal.returns-clause-remove_unsynced
returns-clause-remove_unsynced c name_of s lane kept output change keeps is =
    make c.every_state_is_sound.ensures.goes_on name_of s (publishing s (model.Gone (name_of output)) (Some (length s.publications))) lane (Remove output) Unsynced Unsynced (effect.changed kept change true) keeps.sound tt (remove_step name_of s lane kept output keeps (c.the_latest_publication_stands.ensures.rises s.publications (length s.publications)) Unsynced change is)
    (remove_keeps name_of s lane kept output keeps (c.the_latest_publication_stands.ensures.rises s.publications (length s.publications)) true (Some (length s.publications)) change is (c.the_ledger_follows_the_machine.ensures.pends s (model.Gone (name_of output)) keeps.sound.marks))
    (named_without name_of s keeps.named (name_of output) (Some (length s.publications)))

pub returns-clause-remove_failed : goal.returns-clause-remove_failed
returns-clause-remove_failed c name_of s lane kept output change keeps is =
    make c.every_state_is_sound.ensures.goes_on name_of s s lane (Remove output) Fault Fault kept keeps.sound tt (remove_step name_of s lane kept output keeps (c.the_latest_publication_stands.ensures.rises s.publications (length s.publications)) Fault change is)
    (keeps.is)
    keeps.named

pub returns-clause-remove_refused : goal.returns-clause-remove_refused
returns-clause-remove_refused c name_of s lane kept output keeps is =
    make c.every_state_is_sound.ensures.goes_on name_of s s lane (Remove output) Done NoUnit kept keeps.sound tt (refuse_step name_of s lane kept output keeps (c.the_latest_publication_stands.ensures.rises s.publications (length s.publications)) is)
    (keeps.is)
    keeps.named

pub returns-clause-scan_made : goal.returns-clause-scan_made
returns-clause-scan_made c name_of s lane kept keeps =
    let number : kept.published ≡ length s.publications = ap (λ (k : Kept). k.published) keeps.is in
    make c.every_state_is_sound.ensures.goes_on name_of s _ lane Scan Done (At kept.published) (effect.opened kept lane) keeps.sound tt (ap (λ n. Some (ended (At n) (scan s lane).plain.state)) (sym number))
    (ap (λ (k : Kept). effect.opened k lane) keeps.is ∙ sym (c.the_ledger_follows_the_machine.ensures.scans s lane))
    keeps.named

pub returns-clause-scan_failed : goal.returns-clause-scan_failed
returns-clause-scan_failed c name_of s lane kept flag keeps failure =
    make c.every_state_is_sound.ensures.goes_on name_of s (unopened s) lane Scan flag flag (effect.closed kept) keeps.sound tt (scan_fails name_of s lane flag failure)
    (ap effect.closed keeps.is ∙ sym (c.the_ledger_follows_the_machine.ensures.closes s))
    keeps.named

pub returns-clause-load_made : goal.returns-clause-load_made
returns-clause-load_made c name_of s lane kept name purpose keeps may =
    make c.every_state_is_sound.ensures.goes_on name_of s s lane (Load name purpose) Done Done kept keeps.sound may refl
    (keeps.is)
    keeps.named

pub returns-clause-load_failed : goal.returns-clause-load_failed
returns-clause-load_failed c name_of s lane kept name purpose flag keeps may failure =
    make c.every_state_is_sound.ensures.goes_on name_of s (load_failed s purpose) lane (Load name purpose) flag flag (effect.load_failed kept purpose) keeps.sound may (load_fails name_of s lane name purpose flag failure)
    (load_keeps name_of s lane name purpose kept keeps.is (c.the_ledger_follows_the_machine.ensures.closes s) purpose)
    (load_named name_of s lane name purpose keeps.named purpose)

pub returns-clause-installs : goal.returns-clause-installs
returns-clause-installs c name_of s lane kept open_import keeps is own =
    let is_open : s.import ≡ Some open_import = ap (λ (k : Kept). k.import) (sym keeps.is) ∙ is in
    make c.every_state_is_sound.ensures.goes_on name_of s _ lane Install Done (At open_import.mark) (effect.installed kept lane) keeps.sound (record { open_import = open_import; is_open = is_open; own = own }) (install_step name_of s lane open_import is_open own)
    (ap (λ (k : Kept). effect.installed k lane) keeps.is ∙ sym (c.the_ledger_follows_the_machine.ensures.installs s lane open_import is_open))
    keeps.named

pub returns-clause-adopts : goal.returns-clause-adopts
returns-clause-adopts c name_of s lane kept keeps =
    let mark : kept.current ≡ s.current = ap (λ (k : Kept). k.current) keeps.is in
    make c.every_state_is_sound.ensures.goes_on name_of s _ lane Adopt Done (At kept.current) (effect.adopted kept lane) keeps.sound tt (ap (λ n. Some (ended (At n) (adopt s lane).plain.state)) (sym mark))
    (ap (λ (k : Kept). effect.adopted k lane) keeps.is ∙ sym (c.the_ledger_follows_the_machine.ensures.adopts s lane))
    keeps.named

pub returns-clause-releases : goal.returns-clause-releases
returns-clause-releases c name_of s lane kept keeps =
    make c.every_state_is_sound.ensures.goes_on name_of s _ lane Release Done Done (effect.released kept lane) keeps.sound tt refl
    (ap (λ (k : Kept). effect.released k lane) keeps.is ∙ sym (c.the_ledger_follows_the_machine.ensures.releases s lane))
    keeps.named

pub returns-clause-first_loose : goal.returns-clause-first_loose
returns-clause-first_loose c name_of s kept first keeps least =
    c.the_guard_agrees_with_the_machine.ensures.first s first keeps.sound.rising
    (subst (λ (g : Guarding). IsFirstLoose g (keys_of s.records) first) (ap (λ (k : Kept). record k.guard { unsynced = None }) keeps.is) least)

pub returns-clause-collect_nothing : goal.returns-clause-collect_nothing
returns-clause-collect_nothing c name_of s lane kept keeps none =
    make c.every_state_is_sound.ensures.goes_on name_of s (settled s) lane Collect Done Nothing (effect.settled kept) keeps.sound tt (nothing_step s name_of lane none)
    (ap effect.settled keeps.is ∙ sym (c.the_ledger_follows_the_machine.ensures.settles s))
    keeps.named

pub returns-clause-collect_removed : goal.returns-clause-collect_removed
returns-clause-collect_removed c name_of s lane kept name keeps first =
    make c.every_state_is_sound.ensures.goes_on name_of s _ lane Collect Done (Removed name) (effect.settled kept) keeps.sound tt (removed_step s name_of lane name first)
    (ap effect.settled keeps.is ∙ sym (c.the_ledger_follows_the_machine.ensures.settles s))
    keeps.named

pub returns-clause-collect_failed : goal.returns-clause-collect_failed
returns-clause-collect_failed c name_of s lane kept keeps =
    make c.every_state_is_sound.ensures.goes_on name_of s s lane Collect Fault Fault kept keeps.sound tt refl
    (keeps.is)
    keeps.named
