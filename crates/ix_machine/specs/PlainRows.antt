-- What the plain machine's values stand for: a change of the state, and all that a call may do.
use Rattle.std.specs.Prelude.{ℕ, Bool, true, false, List, Some, None, option_map}
use Rattle.std.specs.Map.{remove_entry}
use Rattle.std.specs.BTreeMap.{insert_entry, is_at}
use Rattle.std.specs.Str.{bytes_eq}
use Rattle.ix_types.specs.Row.{text_cmp}
use Rattle.ix_machine.specs.declared.effects.Effect.{Effect}
use Rattle.ix_machine.specs.declared.effects.Effect.TheVariants.{Stays, Leases, Writes, Changes, Publishes, Imports, Installs, Holds, Settles, Collects}
use Rattle.ix_machine.specs.declared.effects.Misses.{Misses}
use Rattle.ix_machine.specs.declared.effects.Misses.TheVariants.{No, Each, One}
use Rattle.ix_machine.specs.declared.effects.Row as code
use Rattle.ix_machine.specs.declared.effects.Planned.{Planned}
use Rattle.ix_machine.specs.Needs.{settled}
use Rattle.ix_machine.specs.Plain.{publication_of}
use Rattle.ix_machine.specs.PlainState.{lease_seen, import_seen}
use Rattle.ix_machine.specs.State.{State}
use Rattle.ix_machine.specs.Step.{Stepped, Row, ended, with_lease, dropped, holding, publishing}

-- the state behind a change
abbrev pub applied : Effect → State → State
applied Stays s = s
applied (Leases lane lease) s = with_lease s lane (option_map lease_seen lease)
applied (Writes lane lease name bytes) s = with_lease (record s { records = insert_entry text_cmp s.records name bytes }) lane (option_map lease_seen lease)
applied (Changes change pending) s = publishing s (publication_of change) pending
applied (Publishes lane change pending) s = publishing (dropped s lane) (publication_of change) pending
applied (Imports import) s = record s { import = option_map import_seen import }
applied (Installs lane mark) s = holding (record s { import = None; current = mark }) lane (Some mark)
applied (Holds lane mark) s = holding s lane mark
applied Settles s = settled s
applied (Collects name) s = record (settled s) { records = remove_entry (is_at (text_cmp name)) s.records }

abbrev pub misses_of : Misses → List ℕ → Bool
misses_of No = λ _. false
misses_of Each = λ _. true
misses_of (One name) = bytes_eq name

-- what the call may do in the state
abbrev pub row_seen : State → code.Row → Row
row_seen s r = record {
  plain = ended r.outcome (applied r.plain s);
  faulted = option_map (λ e. applied e s) r.faulted;
  unsynced = option_map (λ e. applied e s) r.unsynced;
  misses = misses_of r.misses;
}

abbrev pub planned_seen : State → Planned → Stepped
planned_seen s p = ended p.outcome (applied p.effect s)
