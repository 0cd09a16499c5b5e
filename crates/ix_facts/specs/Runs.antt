-- Runs of a library, call after call, and the machine's own run of the same calls.
use Rattle.std.specs.Prelude.{◌≡◌, ℕ, List, [], ◌∷◌, Option, Some, None, IfSome, option_map, option_and_then}
use Rattle.std.specs.List.{filter_map}
use Rattle.ix_dir.specs.State.{DirState}
use Rattle.ix_shelf.specs.Shelf.{OnShelf}
use Rattle.ix_machine.specs.declared.event.Call.{Call}
use Rattle.ix_machine.specs.declared.event.Call.TheVariants as call
use Rattle.ix_machine.specs.declared.event.Event.{Event}
use Rattle.ix_machine.specs.declared.event.Outcome.{Outcome}
use Rattle.ix_machine.specs.Given.{Given, Lease, Put, Stage, Publish, Remove, Scan, Load, Install, Adopt, Release, Collect}
use Rattle.ix_machine.specs.Run.{Turn}
use Rattle.ix_machine.specs.State.{State}
use Rattle.ix_machine.specs.Step.{Stepped, step, staged_by}
use Rattle.ix_ledger.specs.Books.{event}
use Rattle.ix_ledger.specs.Kept.{Kept}
use Rattle.ix_library.specs.declared.known.KnownStamps.{KnownStamps}
use Rattle.ix_library.specs.Endings.{flag_for, with_event, name_of_unit, publish_name}
use Rattle.ix_library.specs.StandsFor.{StandsFor, Takes}

-- ---- the machine

-- the events of a run, and the state at its end
pub record Played : Type 0 where
  pub events : List Event
  pub state : State

-- the call as an event shows it: with the names of what it is given
abbrev pub named_call : (List ℕ → List ℕ) → State → ℕ → Given → Call
named_call name_of s lane (Lease names) = call.Lease names
named_call name_of s lane (Put body) = call.Put body.name
named_call name_of s lane (Stage unit) = call.Stage (name_of unit.output)
named_call name_of s lane Publish = call.Publish (name_of_unit name_of (staged_by s lane))
named_call name_of s lane (Remove output) = call.Remove (name_of output)
named_call name_of s lane Scan = call.Scan
named_call name_of s lane (Load name purpose) = call.Load name
named_call name_of s lane Install = call.Install
named_call name_of s lane Adopt = call.Adopt
named_call name_of s lane Release = call.Release
named_call name_of s lane Collect = call.Collect

-- the event of a turn that is taken in the state
abbrev pub event_of : (List ℕ → List ℕ) → State → Turn → Stepped → Event
event_of name_of s t stepped = event t.lane (named_call name_of s t.lane t.given) stepped.outcome

-- the run with an event in front
abbrev pub behind : Event → Played → Played
behind first run = record { events = first ∷ run.events; state = run.state }

-- a call of a lane with its flag
abbrev pub turn : ℕ → Given → Outcome → Turn
turn lane given flag = record { lane = lane; given = given; flag = flag }

-- the machine takes one turn after the other, each with its flag, and writes down how each ended. None where it doesn't take one
abbrev pub played_of : (List ℕ → List ℕ) → State → List Turn → Option Played
played_of name_of s [] = Some (record { events = []; state = s })
played_of name_of s (t ∷ turns) = option_and_then (λ stepped. option_map (behind (event_of name_of s t stepped)) (played_of name_of stepped.state turns)) (step name_of s t.lane t.given t.flag)

-- ---- a library

-- what there is of a library: what it keeps of a state, what happened, its shelf, the stamps that it knows, its directory
pub record Store : Type 0 where
  pub kept : Kept
  pub events : List Event
  pub shelf : OnShelf
  pub known : KnownStamps
  pub dir : DirState

-- it stands for the state
abbrev pub IsAt : (List ℕ → List ℕ) → State → Store → Type 0
IsAt name_of s store = StandsFor name_of s store.kept store.shelf store.known store.dir

-- a call of a lane, and how it ended: None where memory was wanting
pub record Called : Type 0 where
  pub lane : ℕ
  pub given : Given
  pub ending : Option Outcome

-- the call as the library shows it, by what it keeps
abbrev pub shown : (List ℕ → List ℕ) → Kept → ℕ → Given → Call
shown name_of kept lane (Lease names) = call.Lease names
shown name_of kept lane (Put body) = call.Put body.name
shown name_of kept lane (Stage unit) = call.Stage (name_of unit.output)
shown name_of kept lane Publish = call.Publish (publish_name name_of kept lane)
shown name_of kept lane (Remove output) = call.Remove (name_of output)
shown name_of kept lane Scan = call.Scan
shown name_of kept lane (Load name purpose) = call.Load name
shown name_of kept lane Install = call.Install
shown name_of kept lane Adopt = call.Adopt
shown name_of kept lane Release = call.Release
shown name_of kept lane Collect = call.Collect

-- what each call of a library says of itself: its step, its event, and what is there where memory was wanting
pub record IsLibraryCall (name_of : List ℕ → List ℕ) (s : State) (before : Store) (called : Called) (after : Store) : Type 0 where
  pub takes : IfSome called.ending (λ how. Takes name_of s called.lane called.given (flag_for how) how before.dir after.kept after.shelf after.known after.dir)
  pub logged : after.events ≡ with_event before.events called.lane (shown name_of before.kept called.lane called.given) called.ending
  pub again : called.ending ≡ None → IsAt name_of s after
  pub unmoved : called.ending ≡ None → after.dir.moves ≡ before.dir.moves

-- the machine's step of a call, with the flag that its outcome shows; none where memory was wanting
abbrev pub step_of : (List ℕ → List ℕ) → State → Called → Option Stepped
step_of name_of s called = option_and_then (λ how. step name_of s called.lane called.given (flag_for how)) called.ending

-- the state behind a step, and the same where there is none
abbrev pub state_behind : State → Option Stepped → State
state_behind s None = s
state_behind s (Some stepped) = stepped.state

abbrev pub after_call : (List ℕ → List ℕ) → State → Called → State
after_call name_of s called = state_behind s (step_of name_of s called)

-- the state after all of the calls
abbrev pub after_calls : (List ℕ → List ℕ) → State → List Called → State
after_calls name_of s [] = s
after_calls name_of s (called ∷ more) = after_calls name_of (after_call name_of s called) more

-- the library that stood for the state was called so, one call after the other, and is this now
abbrev pub AreLibraryCalls : (List ℕ → List ℕ) → State → Store → List Called → Store → Type 0
AreLibraryCalls name_of s first [] last = first ≡ last
AreLibraryCalls name_of s first (called ∷ more) last = (between : Store) × IsLibraryCall name_of s first called between × AreLibraryCalls name_of (after_call name_of s called) between more last

-- the turn of a call that ended
abbrev pub turn_of : Called → Option Turn
turn_of called = option_map (λ how. turn called.lane called.given (flag_for how)) called.ending

-- the turns of the calls that ended, in their order
abbrev pub turns_taken : List Called → List Turn
turns_taken calls = filter_map turn_of calls
