use Rattle.std.proofs.Common.{ℕ, Option, IfSome, subst}
use Rattle.std.specs.BTreeMap.{is_at}
use Rattle.ix_types.specs.Row.{text_cmp}
use Rattle.ix_model.specs.declared.publication.StoredUnit.{StoredUnit}
use Rattle.ix_machine.specs.Needs.{visible, seen_at}
use Rattle.ix_machine.specs.Sound.{StandsWhole, ValuesStand, RecordsStand, IsLeaseSound}
use Rattle.ix_machine.specs.State.{Lease}
use Rattle.ix_machine.proofs.Lists.{All-looked_up, name-among}
use Rattle.ix_machine.proofs.Missing.{needed_stands}
use Rattle.ix_machine.proofs.Runs.{begun-sound, led-sound}
use Rattle.ix_machine.proofs.laws.needed_records_stand.Goals as goal

pub returns-clause-values : goal.returns-clause-values
returns-clause-values c = λ name_of opening lanes turns s h leads. (led-sound name_of turns _ s (begun-sound name_of opening h lanes) leads).needed

pub returns-clause-none_missing : goal.returns-clause-none_missing
returns-clause-none_missing c = λ name_of opening lanes turns s name h leads. needed_stands name_of s (led-sound name_of turns _ s (begun-sound name_of opening h lanes) leads).needed name

pub returns-clause-put : goal.returns-clause-put
returns-clause-put c = λ name_of opening lanes turns s lane h leads. (led-sound name_of turns _ s (begun-sound name_of opening h lanes) leads).leases lane

pub returns-clause-whole : goal.returns-clause-whole
returns-clause-whole c = λ name_of records name. (
  λ h. (h.1.bytes, h.1.stands, record { named = h.1.named; spelled = (h.0, h.1.spelled) }),
  λ h. (h.2.spelled.0, record { bytes = h.0; stands = h.1; named = h.2.named; spelled = h.2.spelled.1 }),
)

pub returns-clause-visible_values : goal.returns-clause-visible_values
returns-clause-visible_values c = λ name_of opening lanes turns s name stored h leads is.
    All-looked_up (λ (u : StoredUnit). ValuesStand name_of s.records u.unit.records u.values) (is_at (text_cmp name)) (visible s) stored
    (led-sound name_of turns _ s (begun-sound name_of opening h lanes) leads).needed.visible_ones is

pub returns-clause-held_values : goal.returns-clause-held_values
returns-clause-held_values c = λ name_of opening lanes turns s lane mark name stored h leads held is.
    All-looked_up (λ (u : StoredUnit). ValuesStand name_of s.records u.unit.records u.values) (is_at (text_cmp name)) (seen_at s mark) stored
    (subst (λ (o : Option ℕ). IfSome o (λ m. RecordsStand name_of s.records (seen_at s m))) held ((led-sound name_of turns _ s (begun-sound name_of opening h lanes) leads).needed.held lane)) is

pub returns-clause-put_whole : goal.returns-clause-put_whole
returns-clause-put_whole c = λ name_of opening lanes turns s lane lease name h leads is put.
    let own : IsLeaseSound name_of s.records lease = subst (λ (o : Option Lease). IfSome o (IsLeaseSound name_of s.records)) is ((led-sound name_of turns _ s (begun-sound name_of opening h lanes) leads).leases lane) in
    name-among (StandsWhole name_of s.records) lease.put name own.whole put
