-- How a lane's call ended, and what it was on the machine.
use Rattle.std.specs.Prelude.{◌≡◌, ◌⊎◌, ℕ, Bool, true, false, List, ◌++◌, ◌∷◌, [], Option, Some, None, Result, Ok, Err}
use Rattle.std.specs.declared.alloc.Global.{Global}
use Rattle.std.specs.declared.sync.Arc.{Arc}
use Rattle.ix_dir.specs.State.{DirState}
use Rattle.ix_shelf.specs.Shelf.{OnShelf}
use Rattle.ix_machine.specs.declared.event.Call.{Call}
use Rattle.ix_machine.specs.declared.event.Event.{Event}
use Rattle.ix_machine.specs.declared.event.Outcome.{Outcome}
use Rattle.ix_machine.specs.declared.event.Outcome.TheVariants.{Done}
use Rattle.ix_machine.specs.Given.{Given}
use Rattle.ix_machine.specs.Needs.{seen_at}
use Rattle.ix_machine.specs.State.{State}
use Rattle.ix_ledger.specs.Kept.{Kept}
use Rattle.ix_library.specs.declared.known.KnownStamps.{KnownStamps}
use Rattle.ix_library.specs.StandsFor.{Takes}
use Rattle.ix_lanes.specs.declared.doing.Doing.{Doing}
use Rattle.ix_lanes.specs.declared.doing.Doing.TheVariants.{Begun, Putting, Staged, Importing}
use Rattle.ix_lanes.specs.Calls.{next_call}
use Rattle.ix_lanes.specs.Progress.{Progress, noted, told}
use Rattle.ix_replays.specs.Run.{call_of, flag_of}
use Rattle.ix_polls.specs.declared.polled.Polled.{Polled}
use Rattle.ix_polls.specs.Following.{leaves_import}
use Rattle.ix_seats.specs.declared.made.Made.{Made}
use Rattle.ix_seats.specs.declared.made.Made.TheVariants.{Ended, Loaded, TakenUp, LetGo}
use Rattle.ix_seats.specs.Made.{after, IsGiven}
use Rattle.ix_tables.specs.declared.tables.Version.{Version}
use Rattle.ix_counts.specs.Counting.{is_failure}

-- how the call ended; one that loaded a record is done
abbrev pub outcome_of : Made → Outcome
outcome_of (Ended outcome) = outcome
outcome_of (Loaded name body) = Done
outcome_of (TakenUp outcome version) = outcome
outcome_of (LetGo outcome) = outcome

-- the event of the lane's call
abbrev pub event_of : ℕ → Call → Made → Event
event_of lane call made = record { lane = lane; call = call; outcome = outcome_of made }

-- one event more, of the lane and with this outcome; no call is no event
abbrev pub IsNoted : List Event → ℕ → Option Made → List Event → Type 0
IsNoted earlier lane None events = events ≡ earlier
IsNoted earlier lane (Some made) events = (call : Call) × (events ≡ earlier ++ event_of lane call made ∷ [])

-- whether the answer says that the directory failed
abbrev pub made_failed : {E : Type 0} → Result (Option Made) E → Bool
made_failed (Ok None) = false
made_failed (Ok (Some made)) = is_failure (outcome_of made)
made_failed (Err e) = false

-- the same of a call that was to be made
abbrev pub turn_failed : {E : Type 0} → Result Made E → Bool
turn_failed (Ok made) = is_failure (outcome_of made)
turn_failed (Err e) = false

-- the call ended so, and gave the lane nothing
abbrev pub ended_as : {E : Type 0} → Result Outcome E → Result Made E
ended_as (Ok outcome) = Ok (Ended outcome)
ended_as (Err e) = Err e

-- the call ended so, and the lane holds nothing from now on
abbrev pub let_go_as : {E : Type 0} → Result Outcome E → Result Made E
let_go_as (Ok outcome) = Ok (LetGo outcome)
let_go_as (Err e) = Err e

-- what a turn of a poll, or a refresh, gave: the version that it took up, or nothing
abbrev pub made_by : Outcome → Option (Arc Version Global) → Made
made_by outcome None = Ended outcome
made_by outcome (Some version) = TakenUp outcome version

abbrev pub polled_as : Polled → Made
polled_as polled = made_by polled.outcome polled.version

-- whether an import is under way
abbrev pub is_importing : Doing → Bool
is_importing Begun = false
is_importing (Putting files) = false
is_importing Staged = false
is_importing (Importing mark records) = true

-- The lane's call was made on the machine: it is the one that the lane makes next, it ended so, with the flag that this shows, and the library stands for the state after it;
-- there is one event more, with the names of what the call was given; what it gave the lane is right in that state, and takes the lane on as the event does.
pub record IsMade (name_of : List ℕ → List ℕ) (s : State) (lane : ℕ) (p : Progress) (earlier : List Event) (before : DirState) (made : Made) (events : List Event) (kept : Kept) (shelf : OnShelf) (known : KnownStamps) (dir : DirState) : Type 0 where
  pub given : Given
  pub call : next_call (seen_at s) s.current p ≡ Some given
  pub takes : Takes name_of s lane given (flag_of (outcome_of made)) (outcome_of made) before kept shelf known dir
  pub event : events ≡ earlier ++ event_of lane (call_of name_of s lane given) made ∷ []
  pub gives : IsGiven (seen_at takes.next) p made
  pub tells : after made p ≡ told (outcome_of made) (noted (event_of lane (call_of name_of s lane given) made) p)

-- a call that is no poll's: no import is opened, gone on with or closed
pub record IsMadeBeside (name_of : List ℕ → List ℕ) (s : State) (lane : ℕ) (p : Progress) (earlier : List Event) (before : DirState) (made : Made) (events : List Event) (kept : Kept) (shelf : OnShelf) (known : KnownStamps) (dir : DirState) : Type 0 where
  pub is : IsMade name_of s lane p earlier before made events kept shelf known dir
  pub beside : leaves_import is.given ≡ true
  pub doing : ((after made p).doing ≡ p.doing) ⊎ (is_importing (after made p).doing ≡ false)
