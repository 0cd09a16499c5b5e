-- What events leave of a lane's tasks, of how far the first of them is, and so of its lease and its import.
use Rattle.std.proofs.Common.{◌≡◌, ℕ, if◌then◌else◌, true, false, List, [], ◌∷◌, ◌++◌, drop, fold, Option, Some, None, unwrap_or, option_map, refl, sym, ◌∙◌, subst}
use Rattle.std.specs.List.{AllByRecursion}
use Rattle.ix_types.specs.declared.row.Query.{Query}
use Rattle.ix_model.specs.Units.{Units}
use Rattle.ix_machine.specs.State as state
use Rattle.ix_machine.specs.declared.event.Event.{Event}
use Rattle.ix_machine.specs.declared.event.Outcome.{Outcome}
use Rattle.ix_machine.specs.declared.event.Outcome.TheVariants.{Done, Written, Shared, Clash, Synced, Unsynced, NoUnit, At, Removed, Nothing, Fault, Lost, Damaged}
use Rattle.ix_lanes.specs.declared.doing.Doing.{Doing}
use Rattle.ix_lanes.specs.declared.doing.Doing.TheVariants.{Begun, Putting, Staged, Importing}
use Rattle.ix_lanes.specs.declared.answered.Answered.{Answered}
use Rattle.ix_jobs.specs.Made.{Made}
use Rattle.ix_lanes.specs.Tasks.{Task}
use Rattle.ix_lanes.specs.Tasks as task
use Rattle.ix_lanes.specs.Progress.{Progress, begun, told, goes_on, build_goes_on, poll_told, scanned, imported, ask_told, adopted, answered, ended_at, settled, settled_over, noted, with_some, loaded_by, after_event, progress_after}
use Rattle.ix_machine.specs.Outcomes.{is_done}
use Rattle.ix_allowed.specs.Agree.{lease_at, lease_in, import_at, import_in, IsBuilding, IsUnderWay}
use Rattle.ix_allowed.proofs.Steps.{at, lease_begun, import_begun}

-- ---- asks

-- what holds of the tasks left and of how far the first of them is, and from an ask on of the task behind it
module _ (P : List Task → Doing → Type 0) (begins : (query : Query) (tasks : List Task) (doing : Doing) → P (task.Ask query ∷ tasks) doing → P tasks Begun) where
  abbrev pub Of : Progress → Type 0
  Of p = P p.tasks p.doing

  -- the asks in front are answered
  settles : (seen : ℕ → Units) (tasks : List Task) (doing : Doing) (held : Option ℕ) (loaded : List (List ℕ)) (answers : List Answered) → P tasks doing → Of (settled_over seen tasks (at tasks doing held loaded answers))
  settles seen [] doing held loaded answers p = p
  settles seen (task.Build job ∷ tasks) doing held loaded answers p = p
  settles seen (task.Remove output ∷ tasks) doing held loaded answers p = p
  settles seen (task.Poll ∷ tasks) doing held loaded answers p = p
  settles seen (task.Refresh ∷ tasks) doing held loaded answers p = p
  settles seen (task.Ask query ∷ tasks) doing held loaded answers p =
      let now = at (task.Ask query ∷ tasks) doing held loaded answers in
      elim (ended_at seen query held loaded) as (λ o. Of (unwrap_or (option_map (λ ended. settled_over seen tasks (answered ended now)) o) now)) [
        | None ↦ p
        | Some ended ↦ settles seen tasks Begun held loaded (answers ++ (record { mark = held; result = ended }) ∷ []) (begins query tasks doing p)
      ]
  settles seen (task.Release ∷ tasks) doing held loaded answers p = p
  settles seen (task.Collect ∷ tasks) doing held loaded answers p = p

  pub settled_keeps : (seen : ℕ → Units) (q : Progress) → Of q → Of (settled seen q)
  settled_keeps seen q p = settles seen q.tasks q.doing q.held q.loaded q.answers p

  -- an ask goes on, or it is over
  module _ (query : Query) (tasks : List Task) (doing : Doing) (p : P (task.Ask query ∷ tasks) doing) where
    ask_on : (held : Option ℕ) (loaded : List (List ℕ)) (answers : List Answered) (outcome : Outcome) → Of (ask_told outcome (at (task.Ask query ∷ tasks) doing held loaded answers))
    ask_on held loaded answers Done = p
    ask_on held loaded answers Written = p
    ask_on held loaded answers Shared = p
    ask_on held loaded answers Clash = p
    ask_on held loaded answers Synced = p
    ask_on held loaded answers Unsynced = p
    ask_on held loaded answers NoUnit = p
    ask_on held loaded answers (At mark) = p
    ask_on held loaded answers (Removed name) = p
    ask_on held loaded answers Nothing = p
    ask_on held loaded answers Fault = begins query tasks doing p
    ask_on held loaded answers (Lost name) = begins query tasks doing p
    ask_on held loaded answers (Damaged name) = begins query tasks doing p

    some_on : (name : Option (List ℕ)) (held : Option ℕ) (loaded : List (List ℕ)) (answers : List Answered) (outcome : Outcome) → Of (told outcome (with_some name (at (task.Ask query ∷ tasks) doing held loaded answers)))
    some_on None held loaded answers outcome = ask_on held loaded answers outcome
    some_on (Some name) held loaded answers outcome = ask_on held _ answers outcome

    pub ask_event : (held : Option ℕ) (loaded : List (List ℕ)) (answers : List Answered) (event : Event) → Of (told event.outcome (noted event (at (task.Ask query ∷ tasks) doing held loaded answers)))
    ask_event held loaded answers event =
        elim (is_done event.outcome) as (λ b. Of (told event.outcome (if b then with_some (loaded_by event.call) (at (task.Ask query ∷ tasks) doing held loaded answers) else at (task.Ask query ∷ tasks) doing held loaded answers))) [
          | true ↦ some_on (loaded_by event.call) held loaded answers event.outcome
          | false ↦ ask_on held loaded answers event.outcome
        ]

-- ---- the lease and the import that a progress says

lease_from : (x : Option state.Lease) (query : Query) (tasks : List Task) (doing : Doing) → x ≡ lease_at (task.Ask query ∷ tasks) doing → x ≡ lease_at tasks Begun
lease_from x query tasks doing e = e ∙ sym (lease_begun tasks)

import_from : (lane : ℕ) (x : Option state.Import) (query : Query) (tasks : List Task) (doing : Doing) → x ≡ import_at lane (task.Ask query ∷ tasks) doing → x ≡ import_at lane tasks Begun
import_from lane x query tasks doing e = e ∙ sym (import_begun lane tasks)

-- an ask that goes on says of no lease, and so does the task behind it
none_told : (query : Query) (tasks : List Task) (doing : Doing) (held : Option ℕ) (loaded : List (List ℕ)) (answers : List Answered) (outcome : Outcome) → None ≡ lease_in (ask_told outcome (at (task.Ask query ∷ tasks) doing held loaded answers))
none_told query tasks doing held loaded answers outcome = ask_on (λ ts d. None ≡ lease_at ts d) (lease_from None) query tasks doing refl held loaded answers outcome

none_imported : (lane : ℕ) (query : Query) (tasks : List Task) (doing : Doing) (held : Option ℕ) (loaded : List (List ℕ)) (answers : List Answered) (outcome : Outcome) → None ≡ import_in lane (ask_told outcome (at (task.Ask query ∷ tasks) doing held loaded answers))
none_imported lane query tasks doing held loaded answers outcome = ask_on (λ ts d. None ≡ import_at lane ts d) (import_from lane None) query tasks doing refl held loaded answers outcome

noted_lease : (x : Option state.Lease) (event : Event) (tasks : List Task) (doing : Doing) (held : Option ℕ) (loaded : List (List ℕ)) (answers : List Answered)
    → x ≡ lease_in (told event.outcome (at tasks doing held loaded answers)) → x ≡ lease_in (told event.outcome (noted event (at tasks doing held loaded answers)))
noted_lease x event [] doing held loaded answers e = e
noted_lease x event (task.Build job ∷ tasks) doing held loaded answers e = e
noted_lease x event (task.Remove output ∷ tasks) doing held loaded answers e = e
noted_lease x event (task.Poll ∷ tasks) doing held loaded answers e = e
noted_lease x event (task.Refresh ∷ tasks) doing held loaded answers e = e
noted_lease x event (task.Ask query ∷ tasks) doing held loaded answers e =
    ask_event (λ ts d. x ≡ lease_at ts d) (lease_from x) query tasks doing (e ∙ sym (none_told query tasks doing held loaded answers event.outcome)) held loaded answers event
noted_lease x event (task.Release ∷ tasks) doing held loaded answers e = e
noted_lease x event (task.Collect ∷ tasks) doing held loaded answers e = e

noted_import : (lane : ℕ) (x : Option state.Import) (event : Event) (tasks : List Task) (doing : Doing) (held : Option ℕ) (loaded : List (List ℕ)) (answers : List Answered)
    → x ≡ import_in lane (told event.outcome (at tasks doing held loaded answers)) → x ≡ import_in lane (told event.outcome (noted event (at tasks doing held loaded answers)))
noted_import lane x event [] doing held loaded answers e = e
noted_import lane x event (task.Build job ∷ tasks) doing held loaded answers e = e
noted_import lane x event (task.Remove output ∷ tasks) doing held loaded answers e = e
noted_import lane x event (task.Poll ∷ tasks) doing held loaded answers e = e
noted_import lane x event (task.Refresh ∷ tasks) doing held loaded answers e = e
noted_import lane x event (task.Ask query ∷ tasks) doing held loaded answers e =
    ask_event (λ ts d. x ≡ import_at lane ts d) (import_from lane x) query tasks doing (e ∙ sym (none_imported lane query tasks doing held loaded answers event.outcome)) held loaded answers event
noted_import lane x event (task.Release ∷ tasks) doing held loaded answers e = e
noted_import lane x event (task.Collect ∷ tasks) doing held loaded answers e = e

pub event_lease : (x : Option state.Lease) (seen : ℕ → Units) (p : Progress) (event : Event) → x ≡ lease_in (told event.outcome p) → x ≡ lease_in (after_event seen p event)
event_lease x seen p event e =
    settled_keeps (λ ts d. x ≡ lease_at ts d) (lease_from x) seen (told event.outcome (noted event p)) (noted_lease x event p.tasks p.doing p.held p.loaded p.answers e)

pub event_import : (lane : ℕ) (x : Option state.Import) (seen : ℕ → Units) (p : Progress) (event : Event) → x ≡ import_in lane (told event.outcome p) → x ≡ import_in lane (after_event seen p event)
event_import lane x seen p event e =
    settled_keeps (λ ts d. x ≡ import_at lane ts d) (import_from lane x) seen (told event.outcome (noted event p)) (noted_import lane x event p.tasks p.doing p.held p.loaded p.answers e)

pub first_lease : (seen : ℕ → Units) (tasks : List Task) → None ≡ lease_in (settled seen (begun tasks))
first_lease seen tasks = settled_keeps (λ ts d. None ≡ lease_at ts d) (lease_from None) seen (begun tasks) (sym (lease_begun tasks))

pub first_import : (lane : ℕ) (seen : ℕ → Units) (tasks : List Task) → None ≡ import_in lane (settled seen (begun tasks))
first_import lane seen tasks = settled_keeps (λ ts d. None ≡ import_at lane ts d) (import_from lane None) seen (begun tasks) (sym (import_begun lane tasks))

-- ---- the tasks left are of the lane's, and how far the first of them is fits it

way_begun : (tasks : List Task) → IsUnderWay tasks Begun
way_begun [] = refl
way_begun (task.Build job ∷ tasks) = tt
way_begun (task.Remove output ∷ tasks) = refl
way_begun (task.Poll ∷ tasks) = tt
way_begun (task.Refresh ∷ tasks) = refl
way_begun (task.Ask query ∷ tasks) = refl
way_begun (task.Release ∷ tasks) = refl
way_begun (task.Collect ∷ tasks) = refl

adopted_tasks : (outcome : Outcome) (p : Progress) → (adopted outcome p).tasks ≡ p.tasks
adopted_tasks Done p = refl
adopted_tasks Written p = refl
adopted_tasks Shared p = refl
adopted_tasks Clash p = refl
adopted_tasks Synced p = refl
adopted_tasks Unsynced p = refl
adopted_tasks NoUnit p = refl
adopted_tasks (At mark) p = refl
adopted_tasks (Removed name) p = refl
adopted_tasks Nothing p = refl
adopted_tasks Fault p = refl
adopted_tasks (Lost name) p = refl
adopted_tasks (Damaged name) p = refl

module _ (T : Task → Type 0) where
  -- of each task left T holds, and how far the first of them is fits it
  abbrev pub Fits : List Task → Doing → Type 0
  Fits tasks doing = AllByRecursion T tasks × IsUnderWay tasks doing

  behind : (first : Task) (tasks : List Task) → AllByRecursion T (first ∷ tasks) → Fits tasks Begun
  behind first tasks all = (all.1, way_begun tasks)

  fits_from : (query : Query) (tasks : List Task) (doing : Doing) → Fits (task.Ask query ∷ tasks) doing → Fits tasks Begun
  fits_from query tasks doing p = behind (task.Ask query) tasks p.0

  abbrev FitsOf : Progress → Type 0
  FitsOf p = Fits p.tasks p.doing

  -- ---- a build

  module _ (job : Made) (tasks : List Task) (held : Option ℕ) (loaded : List (List ℕ)) (answers : List Answered) (all : AllByRecursion T (task.Build job ∷ tasks)) where
    abbrev Builds : Option Doing → Type 0
    Builds None = Unit {0}
    Builds (Some doing) = IsBuilding doing

    build_next : (doing : Doing) (next : Option Doing) → Builds next → FitsOf (goes_on next (at (task.Build job ∷ tasks) doing held loaded answers))
    build_next doing None b = behind (task.Build job) tasks all
    build_next doing (Some next) b = (all, b)

    build_way : (doing : Doing) (outcome : Outcome) → Builds (build_goes_on outcome doing)
    build_way Begun Done = tt
    build_way (Putting files) Done = tt
    build_way Staged Done = tt
    build_way (Importing mark records) Done = tt
    build_way Begun Written = tt
    build_way (Putting files) Written = tt
    build_way Staged Written = tt
    build_way (Importing mark records) Written = tt
    build_way Begun Shared = tt
    build_way (Putting files) Shared = tt
    build_way Staged Shared = tt
    build_way (Importing mark records) Shared = tt
    build_way doing Clash = tt
    build_way doing Synced = tt
    build_way doing Unsynced = tt
    build_way doing NoUnit = tt
    build_way doing (At mark) = tt
    build_way doing (Removed name) = tt
    build_way doing Nothing = tt
    build_way doing Fault = tt
    build_way doing (Lost name) = tt
    build_way doing (Damaged name) = tt

  -- ---- a poll

  module _ (tasks : List Task) (held : Option ℕ) (loaded : List (List ℕ)) (answers : List Answered) (all : AllByRecursion T (task.Poll ∷ tasks)) where
    scan_fits : (doing : Doing) (mark : ℕ) → FitsOf (scanned mark doing (at (task.Poll ∷ tasks) doing held loaded answers))
    scan_fits Begun mark = (all, tt)
    scan_fits (Putting files) mark = behind task.Poll tasks all
    scan_fits Staged mark = behind task.Poll tasks all
    scan_fits (Importing opened records) mark = behind task.Poll tasks all

    load_fits : (doing : Doing) → FitsOf (imported doing (at (task.Poll ∷ tasks) doing held loaded answers))
    load_fits Begun = behind task.Poll tasks all
    load_fits (Putting files) = behind task.Poll tasks all
    load_fits Staged = behind task.Poll tasks all
    load_fits (Importing mark records) = (all, tt)

    poll_fits : (doing : Doing) (outcome : Outcome) → FitsOf (poll_told outcome (at (task.Poll ∷ tasks) doing held loaded answers))
    poll_fits doing Done = load_fits doing
    poll_fits doing Written = behind task.Poll tasks all
    poll_fits doing Shared = behind task.Poll tasks all
    poll_fits doing Clash = behind task.Poll tasks all
    poll_fits doing Synced = behind task.Poll tasks all
    poll_fits doing Unsynced = behind task.Poll tasks all
    poll_fits doing NoUnit = behind task.Poll tasks all
    poll_fits doing (At mark) = scan_fits doing mark
    poll_fits doing (Removed name) = behind task.Poll tasks all
    poll_fits doing Nothing = behind task.Poll tasks all
    poll_fits doing Fault = behind task.Poll tasks all
    poll_fits doing (Lost name) = behind task.Poll tasks all
    poll_fits doing (Damaged name) = behind task.Poll tasks all

  -- ---- each task

  event_told : (event : Event) (tasks : List Task) (doing : Doing) (held : Option ℕ) (loaded : List (List ℕ)) (answers : List Answered) → Fits tasks doing → FitsOf (told event.outcome (noted event (at tasks doing held loaded answers)))
  event_told event [] doing held loaded answers p = p
  event_told event (task.Build job ∷ tasks) doing held loaded answers p =
      build_next job tasks held loaded answers p.0 doing (build_goes_on event.outcome doing) (build_way job tasks held loaded answers p.0 doing event.outcome)
  event_told event (task.Remove output ∷ tasks) doing held loaded answers p = behind (task.Remove output) tasks p.0
  event_told event (task.Poll ∷ tasks) doing held loaded answers p = poll_fits tasks held loaded answers p.0 doing event.outcome
  event_told event (task.Refresh ∷ tasks) doing held loaded answers p =
      subst (λ (ts : List Task). Fits (drop 1 ts) Begun) (sym (adopted_tasks event.outcome (at (task.Refresh ∷ tasks) doing held loaded answers))) (behind task.Refresh tasks p.0)
  event_told event (task.Ask query ∷ tasks) doing held loaded answers p = ask_event Fits fits_from query tasks doing p held loaded answers event
  event_told event (task.Release ∷ tasks) doing held loaded answers p = behind task.Release tasks p.0
  event_told event (task.Collect ∷ tasks) doing held loaded answers p = behind task.Collect tasks p.0

  event_fits : (seen : ℕ → Units) (p : Progress) (event : Event) → FitsOf p → FitsOf (after_event seen p event)
  event_fits seen p event f = settled_keeps Fits fits_from seen (told event.outcome (noted event p)) (event_told event p.tasks p.doing p.held p.loaded p.answers f)

  events_fit : (seen : ℕ → Units) (p : Progress) (events : List Event) → FitsOf p → FitsOf (fold (after_event seen) p events)
  events_fit seen p [] f = f
  events_fit seen p (event ∷ events) f = events_fit seen (after_event seen p event) events (event_fits seen p event f)

  pub progress_fits : (seen : ℕ → Units) (tasks : List Task) (events : List Event) → AllByRecursion T tasks → FitsOf (progress_after seen tasks events)
  progress_fits seen tasks events all = events_fit seen (settled seen (begun tasks)) events (settled_keeps Fits fits_from seen (begun tasks) (all, way_begun tasks))
