-- What an event leaves of a lane's tasks and answers: it stays at its task or goes on to the next one, and answers are only added.
use Rattle.std.proofs.Common.{◌≡◌, ◌⊎◌, inl, inr, ℕ, if◌then◌else◌, true, false, List, [], ◌∷◌, ◌++◌, drop, Option, Some, None, unwrap_or, option_map, append_assoc, refl, sym, ap, ◌∙◌}
use Rattle.std.proofs.lemmas.List.{append-nil}
use Rattle.ix_types.specs.declared.row.Query.{Query}
use Rattle.ix_model.specs.Units.{Units}
use Rattle.ix_machine.specs.declared.event.Event.{Event}
use Rattle.ix_machine.specs.declared.event.Outcome.{Outcome}
use Rattle.ix_machine.specs.declared.event.Outcome.TheVariants.{Done, Written, Shared, Clash, Synced, Unsynced, NoUnit, At, Removed, Nothing, Fault, Lost, Damaged}
use Rattle.ix_machine.specs.Outcomes.{is_done}
use Rattle.ix_lanes.specs.declared.doing.Doing.{Doing}
use Rattle.ix_lanes.specs.declared.doing.Doing.TheVariants.{Begun, Putting, Staged, Importing}
use Rattle.ix_lanes.specs.declared.answered.Answered.{Answered}
use Rattle.ix_lanes.specs.declared.answered.AskResult.{AskResult}
use Rattle.ix_jobs.specs.Made.{Made}
use Rattle.ix_lanes.specs.Tasks.{Task}
use Rattle.ix_lanes.specs.Tasks as task
use Rattle.ix_lanes.specs.Progress.{Progress, told, goes_on, build_goes_on, poll_told, scanned, imported, ask_told, adopted, answered, ended_at, settled, settled_over, noted, with_some, loaded_by, after_event, over}

abbrev pub at : List Task → Doing → Option ℕ → List (List ℕ) → List Answered → Progress
at tasks doing held loaded answers = record { tasks = tasks; doing = doing; held = held; loaded = loaded; answers = answers }

-- ---- asks that are settled

-- what holds of tasks, of how far the first of them is and of the answers, and from an ask on of the task behind it with one answer more
module _ (P : List Task → Doing → List Answered → Type 0)
    (begins : (query : Query) (tasks : List Task) (doing : Doing) (answers : List Answered) (answer : Answered) → P (task.Ask query ∷ tasks) doing answers → P tasks Begun (answers ++ answer ∷ [])) where
  abbrev pub Of : Progress → Type 0
  Of p = P p.tasks p.doing p.answers

  pub settles : (seen : ℕ → Units) (tasks : List Task) (doing : Doing) (held : Option ℕ) (loaded : List (List ℕ)) (answers : List Answered) → P tasks doing answers → Of (settled_over seen tasks (at tasks doing held loaded answers))
  settles seen [] doing held loaded answers p = p
  settles seen (task.Build job ∷ tasks) doing held loaded answers p = p
  settles seen (task.Remove output ∷ tasks) doing held loaded answers p = p
  settles seen (task.Poll ∷ tasks) doing held loaded answers p = p
  settles seen (task.Refresh ∷ tasks) doing held loaded answers p = p
  settles seen (task.Ask query ∷ tasks) doing held loaded answers p =
      let now = at (task.Ask query ∷ tasks) doing held loaded answers in
      elim (ended_at seen query held loaded) as (λ o. Of (unwrap_or (option_map (λ ended. settled_over seen tasks (answered ended now)) o) now)) [
        | None ↦ p
        | Some ended ↦ settles seen tasks Begun held loaded (answers ++ (record { mark = held; result = ended }) ∷ []) (begins query tasks doing answers (record { mark = held; result = ended }) p)
      ]
  settles seen (task.Release ∷ tasks) doing held loaded answers p = p
  settles seen (task.Collect ∷ tasks) doing held loaded answers p = p

  pub settled_keeps : (seen : ℕ → Units) (q : Progress) → Of q → Of (settled seen q)
  settled_keeps seen q p = settles seen q.tasks q.doing q.held q.loaded q.answers p

-- ---- what a lane is told

-- the lane stays at its task, or the task is over; and answers are only added
pub record Goes (p q : Progress) : Type 0 where
  pub tasks : (q.tasks ≡ p.tasks) ⊎ ((q.tasks ≡ drop 1 p.tasks) × (q.doing ≡ Begun))
  pub more : List Answered
  pub answers : q.answers ≡ p.answers ++ more

stays : (p q : Progress) → q.tasks ≡ p.tasks → q.answers ≡ p.answers → Goes p q
stays p q t a = record { tasks = inl t; more = []; answers = a ∙ sym (append-nil p.answers) }

ends : (p q : Progress) → q.tasks ≡ drop 1 p.tasks → q.doing ≡ Begun → q.answers ≡ p.answers → Goes p q
ends p q t d a = record { tasks = inr (t, d); more = []; answers = a ∙ sym (append-nil p.answers) }

builds : (next : Option Doing) (p : Progress) → Goes p (goes_on next p)
builds None p = ends p (over p) refl refl refl
builds (Some doing) p = stays p (record p { doing = doing }) refl refl

scans : (mark : ℕ) (doing : Doing) (p : Progress) → Goes p (scanned mark doing p)
scans mark Begun p = stays p _ refl refl
scans mark (Putting files) p = ends p _ refl refl refl
scans mark Staged p = ends p _ refl refl refl
scans mark (Importing opened records) p = ends p _ refl refl refl

imports : (doing : Doing) (p : Progress) → Goes p (imported doing p)
imports Begun p = ends p _ refl refl refl
imports (Putting files) p = ends p _ refl refl refl
imports Staged p = ends p _ refl refl refl
imports (Importing mark records) p = stays p _ refl refl

polls : (outcome : Outcome) (p : Progress) → Goes p (poll_told outcome p)
polls Done p = imports p.doing p
polls Written p = ends p _ refl refl refl
polls Shared p = ends p _ refl refl refl
polls Clash p = ends p _ refl refl refl
polls Synced p = ends p _ refl refl refl
polls Unsynced p = ends p _ refl refl refl
polls NoUnit p = ends p _ refl refl refl
polls (At mark) p = scans mark p.doing p
polls (Removed name) p = ends p _ refl refl refl
polls Nothing p = ends p _ refl refl refl
polls Fault p = ends p _ refl refl refl
polls (Lost name) p = ends p _ refl refl refl
polls (Damaged name) p = ends p _ refl refl refl

refreshes : (outcome : Outcome) (p : Progress) → Goes p (over (adopted outcome p))
refreshes Done p = ends p _ refl refl refl
refreshes Written p = ends p _ refl refl refl
refreshes Shared p = ends p _ refl refl refl
refreshes Clash p = ends p _ refl refl refl
refreshes Synced p = ends p _ refl refl refl
refreshes Unsynced p = ends p _ refl refl refl
refreshes NoUnit p = ends p _ refl refl refl
refreshes (At mark) p = ends p _ refl refl refl
refreshes (Removed name) p = ends p _ refl refl refl
refreshes Nothing p = ends p _ refl refl refl
refreshes Fault p = ends p _ refl refl refl
refreshes (Lost name) p = ends p _ refl refl refl
refreshes (Damaged name) p = ends p _ refl refl refl

answers_one : (result : AskResult) (p : Progress) → Goes p (answered result p)
answers_one result p = record { tasks = inr (refl, refl); more = (record { mark = p.held; result = result }) ∷ []; answers = refl }

asks : (outcome : Outcome) (p : Progress) → Goes p (ask_told outcome p)
asks Done p = stays p _ refl refl
asks Written p = stays p _ refl refl
asks Shared p = stays p _ refl refl
asks Clash p = stays p _ refl refl
asks Synced p = stays p _ refl refl
asks Unsynced p = stays p _ refl refl
asks NoUnit p = stays p _ refl refl
asks (At mark) p = stays p _ refl refl
asks (Removed name) p = stays p _ refl refl
asks Nothing p = stays p _ refl refl
asks Fault p = answers_one _ p
asks (Lost name) p = answers_one _ p
asks (Damaged name) p = answers_one _ p

module _ (query : Query) (tasks : List Task) (doing : Doing) (held : Option ℕ) (loaded : List (List ℕ)) (answers : List Answered) where
  abbrev asking : Progress
  asking = at (task.Ask query ∷ tasks) doing held loaded answers

  -- what is loaded changes neither tasks nor answers
  some_asks : (name : Option (List ℕ)) (outcome : Outcome) → Goes asking (ask_told outcome (with_some name asking))
  some_asks None outcome = asks outcome asking
  some_asks (Some name) outcome = let g = asks outcome (with_some (Some name) asking) in record { tasks = g.tasks; more = g.more; answers = g.answers }

  noted_asks : (event : Event) → Goes asking (told event.outcome (noted event asking))
  noted_asks event =
      elim (is_done event.outcome) as (λ b. Goes asking (told event.outcome (if b then with_some (loaded_by event.call) asking else asking))) [
        | true ↦ by_name (loaded_by event.call)
        | false ↦ asks event.outcome asking
      ]
    where
      by_name : (name : Option (List ℕ)) → Goes asking (told event.outcome (with_some name asking))
      by_name None = some_asks None event.outcome
      by_name (Some name) = some_asks (Some name) event.outcome

pub goes_told : (event : Event) (tasks : List Task) (doing : Doing) (held : Option ℕ) (loaded : List (List ℕ)) (answers : List Answered) → Goes (at tasks doing held loaded answers) (told event.outcome (noted event (at tasks doing held loaded answers)))
goes_told event [] doing held loaded answers = stays _ _ refl refl
goes_told event (task.Build job ∷ tasks) doing held loaded answers = builds (build_goes_on event.outcome doing) (at (task.Build job ∷ tasks) doing held loaded answers)
goes_told event (task.Remove output ∷ tasks) doing held loaded answers = ends _ _ refl refl refl
goes_told event (task.Poll ∷ tasks) doing held loaded answers = polls event.outcome (at (task.Poll ∷ tasks) doing held loaded answers)
goes_told event (task.Refresh ∷ tasks) doing held loaded answers = refreshes event.outcome (at (task.Refresh ∷ tasks) doing held loaded answers)
goes_told event (task.Ask query ∷ tasks) doing held loaded answers = noted_asks query tasks doing held loaded answers event
goes_told event (task.Release ∷ tasks) doing held loaded answers = ends _ _ refl refl refl
goes_told event (task.Collect ∷ tasks) doing held loaded answers = ends _ _ refl refl refl

-- ---- answers are only added

abbrev pub Adds : List Answered → List Answered → Type 0
Adds before after = (more : List Answered) × (after ≡ before ++ more)

pub adds_on : (first second third : List Answered) → Adds first second → Adds second third → Adds first third
adds_on first second third a b = (a.0 ++ b.0, b.1 ∙ (ap (λ (said : List Answered). said ++ b.0) a.1 ∙ append_assoc first a.0 b.0))

-- asks that are settled add answers
pub settled_adds : (seen : ℕ → Units) (p : Progress) (start : List Answered) → Adds start p.answers → Adds start (settled seen p).answers
settled_adds seen p start a =
    settled_keeps (λ tasks doing answers. Adds start answers) (λ query tasks doing answers one b. adds_on start answers (answers ++ one ∷ []) b (one ∷ [], refl)) seen p a

-- so does an event
pub event_adds : (seen : ℕ → Units) (p : Progress) (event : Event) → Adds p.answers (after_event seen p event).answers
event_adds seen p event =
    let g = goes_told event p.tasks p.doing p.held p.loaded p.answers in
    settled_adds seen (told event.outcome (noted event p)) p.answers (g.more, g.answers)

-- ---- on the way to a build

-- the build comes behind these tasks; where there are none, it is as it began
pub record Ahead (job : Made) (rest : List Task) (tasks : List Task) (doing : Doing) : Type 0 where
  pub front : List Task
  pub is : tasks ≡ front ++ task.Build job ∷ rest
  pub begun : front ≡ [] → doing ≡ Begun

module _ (job : Made) (rest : List Task) where
  no_ask : (query : Query) (tasks : List Task) → task.Ask query ∷ tasks ≡ task.Build job ∷ rest → ⊥
  no_ask query tasks e = absurd (cc)

  -- behind the first of the tasks in front
  dropped : (first : Task) (front tasks : List Task) → tasks ≡ first ∷ front ++ task.Build job ∷ rest → drop 1 tasks ≡ front ++ task.Build job ∷ rest
  dropped first front tasks e = ap (λ (ts : List Task). drop 1 ts) e

  one_asked : (query : Query) (tasks : List Task) (doing : Doing) → Ahead job rest (task.Ask query ∷ tasks) doing → Ahead job rest tasks Begun
  one_asked query tasks doing a = by_front a.front a.is
    where
      by_front : (front : List Task) → task.Ask query ∷ tasks ≡ front ++ task.Build job ∷ rest → Ahead job rest tasks Begun
      by_front [] e = absurd (no_ask query tasks e)
      by_front (first ∷ front) e = record { front = front; is = dropped first front (task.Ask query ∷ tasks) e; begun = λ n. refl }

  pub settled_ahead : (seen : ℕ → Units) (p : Progress) → Ahead job rest p.tasks p.doing → Ahead job rest (settled seen p).tasks (settled seen p).doing
  settled_ahead seen p a = settled_keeps (λ tasks doing answers. Ahead job rest tasks doing) (λ query tasks doing answers one b. one_asked query tasks doing b) seen p a

  pub event_ahead : (seen : ℕ → Units) (p : Progress) (event : Event) (first : Task) (front : List Task) → p.tasks ≡ first ∷ front ++ task.Build job ∷ rest
      → Ahead job rest (after_event seen p event).tasks (after_event seen p event).doing
  event_ahead seen p event first front e =
      let q = told event.outcome (noted event p) in
      settled_ahead seen q (by_tasks q (goes_told event p.tasks p.doing p.held p.loaded p.answers).tasks)
    where
      by_tasks : (q : Progress) → (q.tasks ≡ p.tasks) ⊎ ((q.tasks ≡ drop 1 p.tasks) × (q.doing ≡ Begun)) → Ahead job rest q.tasks q.doing
      by_tasks q (inl same) = record { front = first ∷ front; is = same ∙ e; begun = λ n. absurd (cc) }
      by_tasks q (inr next) = record { front = front; is = next.0 ∙ dropped first front p.tasks e; begun = λ n. next.1 }
