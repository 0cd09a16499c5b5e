-- The run of a script of lanes, for an order and flags, and the order that a replay takes.
use Rattle.std.specs.Prelude.{◌≡◌, ℕ, ◌==◌, if◌then◌else◌, List, [], ◌∷◌, ◌++◌, length, map, filter, slice_get, Bool, Option, Some, None, is_some, unwrap_or, option_and_then, option_map}
use Rattle.std.specs.List.{list_any, range_with_len, enumerate_from, find}
use Rattle.ix_plan.specs.declared.plan.Script.{Script}
use Rattle.ix_machine.specs.declared.event.Call.{Call}
use Rattle.ix_machine.specs.declared.event.Call.TheVariants as call
use Rattle.ix_machine.specs.declared.event.Event.{Event}
use Rattle.ix_machine.specs.declared.event.Outcome.{Outcome}
use Rattle.ix_machine.specs.declared.event.Outcome.TheVariants.{Done, Written, Shared, Clash, Synced, Unsynced, NoUnit, At, Removed, Nothing, Fault, Lost, Damaged}
use Rattle.ix_machine.specs.Given.{Given, Lease, Put, Stage, Publish, Remove, Scan, Load, Install, Adopt, Release, Collect}
use Rattle.ix_machine.specs.Needs.{seen_at}
use Rattle.ix_machine.specs.Run.{Opening, begun}
use Rattle.ix_machine.specs.State.{State}
use Rattle.ix_machine.specs.Step.{Stepped, step, staged_by}
use Rattle.ix_lanes.specs.Calls.{next_call}
use Rattle.ix_lanes.specs.Progress.{Progress, progress_after}
use Rattle.ix_lanes.specs.Tasks.{Task, tasks_of}
use Rattle.ix_replays.specs.declared.transcript.Transcript.{Transcript}

-- the events that were made, and the state that they leave
pub record Run : Type 0 where
  pub events : List Event
  pub state : State

-- a lane's own events
abbrev pub own_events : ℕ → List Event → List Event
own_events lane events = filter (λ event. event.lane == lane) events

-- how far a lane is: its own events, over the units that are seen at each mark
abbrev pub progress_of : Run → ℕ → List Task → Progress
progress_of run lane tasks = progress_after (seen_at run.state) tasks (own_events lane run.events)

-- the flag that an outcome shows: Done where nothing failed
abbrev pub flag_of : Outcome → Outcome
flag_of Done = Done
flag_of Written = Done
flag_of Shared = Done
flag_of Clash = Done
flag_of Synced = Done
flag_of Unsynced = Unsynced
flag_of NoUnit = Done
flag_of (At mark) = Done
flag_of (Removed name) = Done
flag_of Nothing = Done
flag_of Fault = Fault
flag_of (Lost name) = Lost name
flag_of (Damaged name) = Damaged name

module _ (name_of : List ℕ → List ℕ) where
  -- the call that an event shows: with the names of what the call is given
  abbrev pub call_of : State → ℕ → Given → Call
  call_of s lane (Lease names) = call.Lease names
  call_of s lane (Put body) = call.Put body.name
  call_of s lane (Stage unit) = call.Stage (name_of unit.output)
  call_of s lane Publish = call.Publish (unwrap_or (option_map (λ unit. name_of unit.output) (staged_by s lane)) [])
  call_of s lane (Remove output) = call.Remove (name_of output)
  call_of s lane Scan = call.Scan
  call_of s lane (Load name purpose) = call.Load name
  call_of s lane Install = call.Install
  call_of s lane Adopt = call.Adopt
  call_of s lane Release = call.Release
  call_of s lane Collect = call.Collect

  -- the run with one event more
  abbrev pub with_event : Run → ℕ → Given → Stepped → Run
  with_event run lane given stepped = record {
    events = run.events ++ (record { lane = lane; call = call_of run.state lane given; outcome = stepped.outcome }) ∷ [];
    state = stepped.state;
  }

  module _ (lanes : List (List Task)) where
    -- the call that a lane makes next; None where it has ended, or isn't there
    abbrev pub next_of : Run → ℕ → Option Given
    next_of run lane = option_and_then (λ tasks. next_call (seen_at run.state) run.state.current (progress_of run lane tasks)) (slice_get lanes lane)

    abbrev pub has_call : Run → ℕ → Bool
    has_call run lane = is_some (next_of run lane)

    -- one more event: the step of the call that the lane makes next, with this flag
    abbrev pub extended : Run → ℕ → Outcome → Option Run
    extended run lane flag = option_and_then (λ given. option_map (with_event run lane given) (step name_of run.state lane given flag)) (next_of run lane)

    -- the run that goes on in an order and with flags, until no lane has a call left
    abbrev pub run_from : Run → List ℕ → List Outcome → Option Run
    run_from run [] [] = if list_any (has_call run) (range_with_len 0 (length lanes)) then None else Some run
    run_from run [] (flag ∷ flags) = None
    run_from run (lane ∷ order) [] = None
    run_from run (lane ∷ order) (flag ∷ flags) = option_and_then (λ longer. run_from longer order flags) (extended run lane flag)

    -- the first of the lanes that has a call left
    abbrev pub first_lane : Run → Option ℕ
    first_lane run = find (has_call run) (range_with_len 0 (length lanes))

    -- the lane whose turn it is, and the rest of the order: the order's own lanes without those that have ended, and then the first lane
    -- that hasn't
    abbrev pub next_lane : Run → List ℕ → Option (ℕ × List ℕ)
    next_lane run [] = option_map (λ lane. (lane, [])) (first_lane run)
    next_lane run (lane ∷ order) = if has_call run lane then Some (lane, order) else next_lane run order

    abbrev turn_and : (Run → List ℕ → List ℕ) → ℕ × List ℕ → Option Run → List ℕ
    turn_and more turn None = turn.0 ∷ []
    turn_and more turn (Some longer) = turn.0 ∷ more longer turn.1

    abbrev take_turn : (Run → List ℕ → List ℕ) → Run → Outcome → Option (ℕ × List ℕ) → List ℕ
    take_turn more run flag None = []
    take_turn more run flag (Some turn) = turn_and more turn (extended run turn.0 flag)

    -- the turns for these flags
    abbrev pub turns_from : List Outcome → Run → List ℕ → List ℕ
    turns_from [] run order = []
    turns_from (flag ∷ flags) run order = take_turn (turns_from flags) run flag (next_lane run order)

  -- what the lanes of a script have to do
  abbrev pub lanes_of : Script → List (List Task)
  lanes_of script = map (tasks_of name_of) script.lanes

  -- the run before its first event
  abbrev pub fresh : Script → Opening → Run
  fresh script opening = record { events = []; state = begun opening (length script.lanes) }

  -- the run of a script over what opening found, for an order of lanes and for flags. It has no value where order and flags differ in length, where
  -- the order names a lane that has ended or that isn't there, where a call doesn't allow its flag, or where a lane has a call left
  abbrev pub run_of : Script → Opening → List ℕ → List Outcome → Option Run
  run_of script opening order flags = run_from (lanes_of script) (fresh script opening) order flags

  -- the order that a replay takes with these flags: the script's own, without the lanes that have ended, and then lane after lane
  abbrev pub turns_of : Script → Opening → List Outcome → List ℕ
  turns_of script opening flags = turns_from (lanes_of script) flags (fresh script opening) script.order

  -- what a run shows
  abbrev pub transcript_of : Script → Opening → Run → Transcript
  transcript_of script opening run = record {
    refused = opening.refused;
    events = run.events;
    answers = map (λ lane. (progress_of run lane.0 lane.1).answers) (enumerate_from 0 (lanes_of script));
  }

  -- the transcript is that of a run in the order and with the flags that its events show, which is the order that a replay takes
  pub record IsReplay (script : Script) (opening : Opening) (transcript : Transcript) : Type 0 where
    pub run : Run
    pub runs : run_of script opening (turns_of script opening (map (λ event. flag_of event.outcome) run.events)) (map (λ event. flag_of event.outcome) run.events) ≡ Some run
    pub shows : transcript ≡ transcript_of script opening run
