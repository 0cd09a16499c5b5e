-- How far a lane is, and how each event of its own takes it on.
use Rattle.std.specs.Prelude.{ℕ, suc, Bool, true, false, if◌then◌else◌, List, [], ◌∷◌, ◌++◌, drop, Option, Some, None, is_none, unwrap_or, option_map}
use Rattle.std.specs.List.{fold}
use Rattle.ix_types.specs.Row.{text_cmp}
use Rattle.ix_types.specs.declared.row.Query.{Query}
use Rattle.ix_model.specs.SortedSet.{add_once}
use Rattle.ix_model.specs.Units.{Units}
use Rattle.ix_answers.specs.Answers.{answer}
use Rattle.ix_answers.specs.Needs.{next_need}
use Rattle.ix_machine.specs.declared.event.Call.{Call}
use Rattle.ix_machine.specs.declared.event.Call.TheVariants as call
use Rattle.ix_machine.specs.declared.event.Outcome.{Outcome}
use Rattle.ix_machine.specs.declared.event.Outcome.TheVariants.{Done, Written, Shared, Clash, Synced, Unsynced, NoUnit, At, Removed, Nothing, Fault, Lost, Damaged}
use Rattle.ix_machine.specs.declared.event.Event.{Event}
use Rattle.ix_machine.specs.Outcomes.{is_done}
use Rattle.ix_lanes.specs.declared.answered.AskResult.{AskResult}
use Rattle.ix_lanes.specs.declared.answered.AskResult.TheVariants as result
use Rattle.ix_lanes.specs.declared.answered.Answered.{Answered}
use Rattle.ix_lanes.specs.declared.doing.Doing.{Doing}
use Rattle.ix_lanes.specs.declared.doing.Doing.TheVariants.{Begun, Putting, Staged, Importing}
use Rattle.ix_lanes.specs.declared.doing.Kind.{Kind}
use Rattle.ix_lanes.specs.declared.doing.Kind.TheVariants as kind
use Rattle.ix_lanes.specs.Tasks.{Task, Build, Remove, Poll, Refresh, Ask, Release, Collect, kind_of}

pub record Progress : Type 0 where
  -- the tasks left. The first of them is under way
  pub tasks : List Task
  -- how far it is
  pub doing : Doing
  -- the mark of the version that the lane holds
  pub held : Option ℕ
  -- the records that its asks loaded since it took that version up, rising
  pub loaded : List (List ℕ)
  -- the results of its asks so far
  pub answers : List Answered

-- before the first call
abbrev pub begun : List Task → Progress
begun tasks = record { tasks = tasks; doing = Begun; held = None; loaded = []; answers = [] }

-- ---- how a task goes on

-- the task under way is over, and the next one begins
abbrev pub over : Progress → Progress
over p = record p { tasks = drop 1 p.tasks; doing = Begun }

-- the lane holds the version of a mark, and no record is loaded for it
abbrev pub taken_up : ℕ → Progress → Progress
taken_up mark p = record p { held = Some mark; loaded = [] }

abbrev pub let_go : Progress → Progress
let_go p = record p { held = None; loaded = [] }

-- the ask under way has its result
abbrev pub answered : AskResult → Progress → Progress
answered ended p = over (record p { answers = p.answers ++ (record { mark = p.held; result = ended }) ∷ [] })

-- one more record is loaded
abbrev pub with_loaded : List ℕ → Progress → Progress
with_loaded name p = record p { loaded = add_once text_cmp name p.loaded }

-- behind a lease the files are put, and behind the staging the unit is published
abbrev pub build_on : Doing → Option Doing
build_on Begun = Some (Putting 0)
build_on (Putting files) = Some Staged
build_on Staged = None
build_on (Importing mark records) = None

-- one file more was put
abbrev pub put_on : Doing → Option Doing
put_on Begun = None
put_on (Putting files) = Some (Putting (suc files))
put_on Staged = None
put_on (Importing mark records) = None

-- how far a build is after a call that ended so; None where it is over
abbrev pub build_goes_on : Outcome → Doing → Option Doing
build_goes_on Done doing = build_on doing
build_goes_on Written doing = put_on doing
build_goes_on Shared doing = put_on doing
build_goes_on Clash doing = None
build_goes_on Synced doing = None
build_goes_on Unsynced doing = None
build_goes_on NoUnit doing = None
build_goes_on (At mark) doing = None
build_goes_on (Removed name) doing = None
build_goes_on Nothing doing = None
build_goes_on Fault doing = None
build_goes_on (Lost name) doing = None
build_goes_on (Damaged name) doing = None

-- the task goes on from there, or it is over
abbrev pub goes_on : Option Doing → Progress → Progress
goes_on None p = over p
goes_on (Some doing) p = record p { doing = doing }

-- behind a scan its records are loaded
abbrev pub scanned : ℕ → Doing → Progress → Progress
scanned mark Begun p = record p { doing = Importing mark 0 }
scanned mark (Putting files) p = over p
scanned mark Staged p = over p
-- an install takes its version up
scanned mark (Importing opened records) p = over (taken_up mark p)

-- one record more was loaded for the import
abbrev pub imported : Doing → Progress → Progress
imported Begun p = over p
imported (Putting files) p = over p
imported Staged p = over p
imported (Importing mark records) p = record p { doing = Importing mark (suc records) }

abbrev pub poll_told : Outcome → Progress → Progress
poll_told Done p = imported p.doing p
poll_told Written p = over p
poll_told Shared p = over p
poll_told Clash p = over p
poll_told Synced p = over p
poll_told Unsynced p = over p
poll_told NoUnit p = over p
poll_told (At mark) p = scanned mark p.doing p
poll_told (Removed name) p = over p
poll_told Nothing p = over p
poll_told Fault p = over p
poll_told (Lost name) p = over p
poll_told (Damaged name) p = over p

abbrev pub adopted : Outcome → Progress → Progress
adopted Done p = p
adopted Written p = p
adopted Shared p = p
adopted Clash p = p
adopted Synced p = p
adopted Unsynced p = p
adopted NoUnit p = p
adopted (At mark) p = taken_up mark p
adopted (Removed name) p = p
adopted Nothing p = p
adopted Fault p = p
adopted (Lost name) p = p
adopted (Damaged name) p = p

-- a load that failed ends an ask with its word
abbrev pub ask_told : Outcome → Progress → Progress
ask_told Done p = p
ask_told Written p = p
ask_told Shared p = p
ask_told Clash p = p
ask_told Synced p = p
ask_told Unsynced p = p
ask_told NoUnit p = p
ask_told (At mark) p = p
ask_told (Removed name) p = p
ask_told Nothing p = p
ask_told Fault p = answered result.Fault p
ask_told (Lost name) p = answered result.Lost p
ask_told (Damaged name) p = answered result.Damaged p

-- how the lane's call ended, by the kind of its task. A lane with no task left makes none
abbrev pub told_by : Kind → Outcome → Progress → Progress
told_by kind.Ended outcome p = p
told_by kind.Build outcome p = goes_on (build_goes_on outcome p.doing) p
told_by kind.Remove outcome p = over p
told_by kind.Poll outcome p = poll_told outcome p
told_by kind.Refresh outcome p = over (adopted outcome p)
told_by kind.Ask outcome p = ask_told outcome p
told_by kind.Release outcome p = over (let_go p)
told_by kind.Collect outcome p = over p

abbrev pub told : Outcome → Progress → Progress
told outcome p = told_by (kind_of p.tasks) outcome p

-- ---- asks

-- how an ask ends without a further load; None where a record is lacking
abbrev pub ended_at : (ℕ → Units) → Query → Option ℕ → List (List ℕ) → Option AskResult
ended_at seen query None loaded = Some result.NoneHeld
ended_at seen query (Some mark) loaded =
    if is_none (next_need query (seen mark) loaded) then Some (result.Rows (answer query (seen mark))) else None

-- the asks in front that lack no record are answered
abbrev pub settled_over : (ℕ → Units) → List Task → Progress → Progress
settled_over seen [] p = p
settled_over seen (Build job ∷ tasks) p = p
settled_over seen (Remove output ∷ tasks) p = p
settled_over seen (Poll ∷ tasks) p = p
settled_over seen (Refresh ∷ tasks) p = p
settled_over seen (Ask query ∷ tasks) p =
    unwrap_or (option_map (λ ended. settled_over seen tasks (answered ended p)) (ended_at seen query p.held p.loaded)) p
settled_over seen (Release ∷ tasks) p = p
settled_over seen (Collect ∷ tasks) p = p

-- seen are the units at each mark
abbrev pub settled : (ℕ → Units) → Progress → Progress
settled seen p = settled_over seen p.tasks p

-- ---- events

-- the record that a load gave
abbrev pub loaded_by : Call → Option (List ℕ)
loaded_by (call.Lease names) = None
loaded_by (call.Put name) = None
loaded_by (call.Stage unit) = None
loaded_by (call.Publish unit) = None
loaded_by (call.Remove unit) = None
loaded_by call.Scan = None
loaded_by (call.Load name) = Some name
loaded_by call.Install = None
loaded_by call.Adopt = None
loaded_by call.Release = None
loaded_by call.Collect = None

-- whether an ask is under way
abbrev pub is_ask : Kind → Bool
is_ask kind.Ended = false
is_ask kind.Build = false
is_ask kind.Remove = false
is_ask kind.Poll = false
is_ask kind.Refresh = false
is_ask kind.Ask = true
is_ask kind.Release = false
is_ask kind.Collect = false

abbrev pub is_asking : Progress → Bool
is_asking p = is_ask (kind_of p.tasks)

abbrev pub with_some : Option (List ℕ) → Progress → Progress
with_some None p = p
with_some (Some name) p = with_loaded name p

-- an ask keeps what it loaded
abbrev pub noted : Event → Progress → Progress
noted event p = if is_asking p then (if is_done event.outcome then with_some (loaded_by event.call) p else p) else p

-- after one event more of the lane's own
abbrev pub after_event : (ℕ → Units) → Progress → Event → Progress
after_event seen p event = settled seen (told event.outcome (noted event p))

-- after these events of the lane's own
abbrev pub progress_after : (ℕ → Units) → List Task → List Event → Progress
progress_after seen tasks events = fold (after_event seen) (settled seen (begun tasks)) events
