use Rattle.std.proofs.Common.{◌≡◌, [], set, Some, None, option_map, refl, sym, ap, ◌∙◌}
use Rattle.ix_machine.specs.Needs.{seen_at}
use Rattle.ix_machine.specs.State.{State, Import}
use Rattle.ix_guard.specs.Counts.{Counts}
use Rattle.ix_guard.specs.Listing.{need_list_of}
use Rattle.ix_guard.specs.OfMachine.{guarding_of}
use Rattle.ix_guard.proofs.Steps.{lease_set, note_step, stage_step, hold_set, install_step, publish_step, pending_step, begin_step}
use Rattle.ix_guard.proofs.laws.the_guard_follows_the_machine.Goals as goal

pub returns-clause-begins : goal.returns-clause-begins
returns-clause-begins c opening lanes = begin_step opening lanes

pub returns-clause-leases : goal.returns-clause-leases
returns-clause-leases c s lane names = lease_set s lane (Some (record { names = names; put = []; staged = None }))

pub returns-clause-notes : goal.returns-clause-notes
returns-clause-notes c s lane name leased = note_step c.answers_are_sorted_sets.ensures.texts s lane name leased

pub returns-clause-drops : goal.returns-clause-drops
returns-clause-drops c s lane = lease_set s lane None

pub returns-clause-stages : goal.returns-clause-stages
returns-clause-stages c s lane unit = stage_step s lane unit

pub returns-clause-changes : goal.returns-clause-changes
returns-clause-changes c s publication marks = publish_step s publication None marks

pub returns-clause-pends : goal.returns-clause-pends
returns-clause-pends c s publication marks = pending_step s publication marks

pub returns-clause-settles : goal.returns-clause-settles
returns-clause-settles c s = refl

pub returns-clause-scans : goal.returns-clause-scans
returns-clause-scans c s lane = refl

pub returns-clause-closes : goal.returns-clause-closes
returns-clause-closes c s = refl

same_list : (s : State) (o : Import) (needs : Counts) → s.import ≡ Some o → option_map (λ (i : Import). need_list_of (seen_at s i.mark)) s.import ≡ Some needs → need_list_of (seen_at s o.mark) ≡ needs
same_list s o needs is list = some_same (sym (ap (option_map (λ (i : Import). need_list_of (seen_at s i.mark))) is) ∙ list)
  where
    some_same : {x y : Counts} → Some x ≡ Some y → x ≡ y
    some_same e = cc

pub returns-clause-installs : goal.returns-clause-installs
returns-clause-installs c s lane o needs is list =
    install_step s lane o.mark
    ∙ ap (λ (n : Counts). record (guarding_of s) { import = None; current = n; held = set (guarding_of s).held lane (Some n) }) (same_list s o needs is list)

pub returns-clause-adopts : goal.returns-clause-adopts
returns-clause-adopts c s lane = hold_set s lane (Some s.current)

pub returns-clause-releases : goal.returns-clause-releases
returns-clause-releases c s lane = hold_set s lane None
