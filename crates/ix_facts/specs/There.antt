-- What a library stands for, whether or not its directory tells its moves: states without record files, and what the entry of each call leaves.
use Rattle.std.specs.Prelude.{◌≡◌, ℕ, List, [], ◌∷◌, ◌++◌, length, Option, Some, None}
use Rattle.ix_dir.specs.State.{DirState}
use Rattle.ix_unit.specs.declared.value.UnitValue.{UnitValue}
use Rattle.ix_model.specs.declared.publication.Publication.TheVariants as model
use Rattle.ix_machine.specs.declared.event.Event.{Event}
use Rattle.ix_machine.specs.declared.event.Outcome.{Outcome}
use Rattle.ix_machine.specs.declared.event.Outcome.TheVariants.{Done, Written, Shared, Clash, Synced, Unsynced, NoUnit, At, Removed, Nothing, Fault, Lost, Damaged}
use Rattle.ix_machine.specs.Given.{Given, Lease, Put, Stage, Publish, Remove, Scan, Load, Install, Adopt, Release, Collect}
use Rattle.ix_machine.specs.Laws.{after_refusal}
use Rattle.ix_machine.specs.Needs.{settled}
use Rattle.ix_machine.specs.State as state
use Rattle.ix_machine.specs.State.{State}
use Rattle.ix_machine.specs.Step.{lease, noted, stage, staged_by, dropped, publishing, scan, install_mark, adopt, release}
use Rattle.ix_ledger.specs.Kept.{Kept}
use Rattle.ix_ledger.specs.OfState.{kept_of}
use Rattle.ix_library.specs.Endings.{with_event}
use Rattle.ix_library.specs.StandsFor.{HasSlots}
use Rattle.ix_facts.specs.Runs.{Called, Store, named_call, shown}

-- the library is there for the state: its number of publications, visible units, leases with the names put, staged units, open import, marks and need lists are the
-- state's, and the slot of each staged unit is staged
pub record IsThere (s : State) (kept : Kept) (dir : DirState) : Type 0 where
  pub keeps : kept ≡ kept_of s
  pub slots : HasSlots kept dir

-- ---- what an entry leaves: the case of the machine's row that its outcome names, with no record files, and with no values in a publication

-- what the lane has staged is published, and its lease is dropped
abbrev pub publishing_staged : (List ℕ → List ℕ) → State → ℕ → Option UnitValue → Option ℕ → State
publishing_staged name_of s lane None pending = s
publishing_staged name_of s lane (Some unit) pending = publishing (dropped s lane) (model.Put (name_of unit.output) (record { unit = unit; values = [] })) pending

-- the open import becomes the current version, which the lane holds
abbrev pub installing : State → ℕ → Option state.Import → State
installing s lane None = s
installing s lane (Some open_import) = (install_mark s lane open_import.mark).plain.state

-- the call was made. Where it changes the units: what pends then
abbrev pub made_leaves : (List ℕ → List ℕ) → State → ℕ → Given → Option ℕ → State
made_leaves name_of s lane (Lease names) pending = (lease s lane names).plain.state
made_leaves name_of s lane (Put body) pending = noted s lane body.name
made_leaves name_of s lane (Stage unit) pending = (stage s lane unit).plain.state
made_leaves name_of s lane Publish pending = publishing_staged name_of s lane (staged_by s lane) pending
made_leaves name_of s lane (Remove output) pending = publishing s (model.Gone (name_of output)) pending
made_leaves name_of s lane Scan pending = (scan s lane).plain.state
made_leaves name_of s lane (Load name purpose) pending = s
made_leaves name_of s lane Install pending = installing s lane s.import
made_leaves name_of s lane Adopt pending = (adopt s lane).plain.state
made_leaves name_of s lane Release pending = (release s lane).plain.state
made_leaves name_of s lane Collect pending = settled s

-- by how the call ended: it was made, or made and left unsynced, or refused
abbrev pub entry_leaves : (List ℕ → List ℕ) → State → ℕ → Given → Outcome → State
entry_leaves name_of s lane given Done = made_leaves name_of s lane given None
entry_leaves name_of s lane given Written = made_leaves name_of s lane given None
entry_leaves name_of s lane given Shared = made_leaves name_of s lane given None
entry_leaves name_of s lane given Clash = after_refusal s lane given
entry_leaves name_of s lane given Synced = made_leaves name_of s lane given None
entry_leaves name_of s lane given Unsynced = made_leaves name_of s lane given (Some (length s.publications))
entry_leaves name_of s lane given NoUnit = after_refusal s lane given
entry_leaves name_of s lane given (At mark) = made_leaves name_of s lane given None
entry_leaves name_of s lane given (Removed name) = made_leaves name_of s lane given None
entry_leaves name_of s lane given Nothing = made_leaves name_of s lane given None
entry_leaves name_of s lane given Fault = after_refusal s lane given
entry_leaves name_of s lane given (Lost name) = after_refusal s lane given
entry_leaves name_of s lane given (Damaged name) = after_refusal s lane given

-- the same state where memory was wanting, which makes no entry
abbrev pub call_leaves : (List ℕ → List ℕ) → State → ℕ → Given → Option Outcome → State
call_leaves name_of s lane given None = s
call_leaves name_of s lane given (Some how) = entry_leaves name_of s lane given how

-- ---- runs

-- the state that the calls leave, one after the other
abbrev pub calls_leave : (List ℕ → List ℕ) → State → List Called → State
calls_leave name_of s [] = s
calls_leave name_of s (called ∷ more) = calls_leave name_of (call_leaves name_of s called.lane called.given called.ending) more

-- what happened in them: an event for each that ended, with the names of what it was given
abbrev pub calls_log : (List ℕ → List ℕ) → State → List Called → List Event
calls_log name_of s [] = []
calls_log name_of s (called ∷ more) =
    with_event [] called.lane (named_call name_of s called.lane called.given) called.ending ++ calls_log name_of (call_leaves name_of s called.lane called.given called.ending) more

-- a call behind which the library, there for the state before it, is there for what the call leaves; and how it was written down
pub record IsThereBehind (name_of : List ℕ → List ℕ) (s : State) (before : Store) (called : Called) (after : Store) : Type 0 where
  pub there : IsThere s before.kept before.dir → IsThere (call_leaves name_of s called.lane called.given called.ending) after.kept after.dir
  pub logged : after.events ≡ with_event before.events called.lane (shown name_of before.kept called.lane called.given) called.ending

-- such calls, one after the other, from this library to that
abbrev pub AreThereBehind : (List ℕ → List ℕ) → State → Store → List Called → Store → Type 0
AreThereBehind name_of s first [] last = first ≡ last
AreThereBehind name_of s first (called ∷ more) last = (between : Store) × IsThereBehind name_of s first called between × AreThereBehind name_of (call_leaves name_of s called.lane called.given called.ending) between more last
