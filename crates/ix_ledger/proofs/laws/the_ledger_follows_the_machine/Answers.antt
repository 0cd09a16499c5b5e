use Rattle.std.proofs.Common.{◌≡◌, [], set, Some, None, option_map, length, refl, sym, ap, ◌∙◌}
use Rattle.ix_machine.specs.Needs.{seen_at}
use Rattle.ix_machine.specs.State.{State, Import, lease_of}
use Rattle.ix_machine.specs.Step.{stage}
use Rattle.ix_guard.specs.Counts.{Counts}
use Rattle.ix_guard.specs.Listing.{need_list_of}
use Rattle.ix_guard.specs.OfMachine.{guarding_of}
use Rattle.ix_ledger.proofs.States.{begin_kept, lease_kept, note_kept, stage_kept, publish_kept, install_kept, hold_kept}
use Rattle.ix_ledger.proofs.laws.the_ledger_follows_the_machine.Goals as goal

pub returns-clause-begins : goal.returns-clause-begins
returns-clause-begins c opening lanes rises = begin_kept opening lanes (c.a_run_begins_with_what_is_found.ensures.units opening lanes rises) (c.the_guard_follows_the_machine.ensures.begins opening lanes)

pub returns-clause-leases : goal.returns-clause-leases
returns-clause-leases c s lane names = lease_kept s lane (Some (record { names = names; put = []; staged = None })) _ (c.the_guard_follows_the_machine.ensures.leases s lane names)

pub returns-clause-notes : goal.returns-clause-notes
returns-clause-notes c s lane name leased = note_kept s lane name _ (c.the_guard_follows_the_machine.ensures.notes s lane name leased)

pub returns-clause-drops : goal.returns-clause-drops
returns-clause-drops c s lane = lease_kept s lane None _ (c.the_guard_follows_the_machine.ensures.drops s lane)

pub returns-clause-stages : goal.returns-clause-stages
returns-clause-stages c s lane unit lease is = stage_kept s lane unit lease is (c.the_guard_follows_the_machine.ensures.stages s lane unit)

pub returns-clause-changes : goal.returns-clause-changes
returns-clause-changes c s publication marks = publish_kept s publication None None (c.the_guard_follows_the_machine.ensures.changes s publication marks)

pub returns-clause-pends : goal.returns-clause-pends
returns-clause-pends c s publication marks = publish_kept s publication (Some (length s.publications)) (Some (guarding_of s).visible) (c.the_guard_follows_the_machine.ensures.pends s publication marks)

pub returns-clause-settles : goal.returns-clause-settles
returns-clause-settles c s = refl

pub returns-clause-scans : goal.returns-clause-scans
returns-clause-scans c s lane = refl

pub returns-clause-closes : goal.returns-clause-closes
returns-clause-closes c s = refl

pub returns-clause-installs : goal.returns-clause-installs
returns-clause-installs c s lane open_import is =
    install_kept s lane open_import is
    (c.the_guard_follows_the_machine.ensures.installs s lane open_import (need_list_of (seen_at s open_import.mark)) is (ap (option_map (λ (i : Import). need_list_of (seen_at s i.mark))) is))

pub returns-clause-adopts : goal.returns-clause-adopts
returns-clause-adopts c s lane = hold_kept s lane (Some s.current) _ (c.the_guard_follows_the_machine.ensures.adopts s lane)

pub returns-clause-releases : goal.returns-clause-releases
returns-clause-releases c s lane = hold_kept s lane None _ (c.the_guard_follows_the_machine.ensures.releases s lane)
