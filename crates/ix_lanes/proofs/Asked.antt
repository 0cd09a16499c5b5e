-- The answers of a lane are those to its asks, in order.
use Rattle.std.proofs.Common.{◌≡◌, ℕ, true, false, if◌then◌else◌, List, [], ◌∷◌, ◌++◌, Option, Some, None, is_none, unwrap_or, option_map, fold, refl, sym, ◌∙◌, subst, append_assoc}
use Rattle.std.specs.List.{AllZip}
use Rattle.ix_types.specs.declared.row.Query.{Query}
use Rattle.ix_model.specs.Units.{Units}
use Rattle.ix_answers.specs.Answers.{answer}
use Rattle.ix_answers.specs.Needs.{next_need}
use Rattle.ix_machine.specs.declared.event.Event.{Event}
use Rattle.ix_machine.specs.declared.event.Outcome.{Outcome}
use Rattle.ix_machine.specs.declared.event.Outcome.TheVariants.{Done, Written, Shared, Clash, Synced, Unsynced, NoUnit, At, Removed, Nothing, Fault, Lost, Damaged}
use Rattle.ix_jobs.specs.Made.{Made}
use Rattle.ix_lanes.specs.declared.answered.AskResult.{AskResult}
use Rattle.ix_lanes.specs.declared.answered.AskResult.TheVariants as result
use Rattle.ix_lanes.specs.declared.answered.Answered.{Answered}
use Rattle.ix_lanes.specs.declared.doing.Doing.{Doing}
use Rattle.ix_lanes.specs.declared.doing.Doing.TheVariants.{Begun, Putting, Staged, Importing}
use Rattle.ix_lanes.specs.Tasks.{Task, Build, Remove, Poll, Refresh, Ask, Release, Collect}
use Rattle.ix_lanes.specs.Progress.{Progress, told, goes_on, build_goes_on, scanned, imported, poll_told, adopted, ask_told, over, answered, settled, settled_over, ended_at, noted, with_some, is_asking, loaded_by, after_event, progress_after, begun}
use Rattle.ix_machine.specs.Outcomes.{is_done}
use Rattle.ix_lanes.specs.Laws.{asks_of, IsResultOf, IsAnswerTo, AreAnswersTo}

zip_more : {A B : Type 0} (R : A → B → Type 0) (xs : List A) (ys : List B) (x : A) (y : B) → AllZip R xs ys → R x y → AllZip R (xs ++ x ∷ []) (ys ++ y ∷ [])
zip_more R [] [] x y a r = (r, tt)
zip_more R [] (z ∷ zs) x y a r = absurd a
zip_more R (w ∷ ws) [] x y a r = absurd a
zip_more R (w ∷ ws) (z ∷ zs) x y a r = (a.0, zip_more R ws zs x y a.1 r)

module _ (seen : ℕ → Units) (asks : List Query) where
  -- the answers so far, and the tasks left
  abbrev Fits : Progress → Type 0
  Fits p = AreAnswersTo seen asks p.answers p.tasks

  one_more : (query : Query) (tasks : List Task) (answers : List Answered) (held : Option ℕ) (ended : AskResult) → IsResultOf seen query held ended
      → AreAnswersTo seen asks answers (Ask query ∷ tasks) → AreAnswersTo seen asks (answers ++ (record { mark = held; result = ended }) ∷ []) tasks
  one_more query tasks answers held ended is fits = record {
    done = fits.done ++ query ∷ [];
    order = fits.order ∙ sym (append_assoc fits.done (query ∷ []) (asks_of tasks));
    each = zip_more (IsAnswerTo seen) fits.done answers query (record { mark = held; result = ended }) fits.each is;
  }

  -- the fields of a progress
  abbrev progress : List Task → Doing → Option ℕ → List (List ℕ) → List Answered → Progress
  progress tasks doing held loaded answers = record { tasks = tasks; doing = doing; held = held; loaded = loaded; answers = answers }

  built : (job : Made) (tasks : List Task) (doing : Doing) (held : Option ℕ) (loaded : List (List ℕ)) (answers : List Answered) (next : Option Doing)
      → AreAnswersTo seen asks answers (Build job ∷ tasks) → Fits (goes_on next (progress (Build job ∷ tasks) doing held loaded answers))
  built job tasks doing held loaded answers None fits = record { done = fits.done; order = fits.order; each = fits.each }
  built job tasks doing held loaded answers (Some next) fits = record { done = fits.done; order = fits.order; each = fits.each }

  import_fits : (tasks : List Task) (now doing : Doing) (held : Option ℕ) (loaded : List (List ℕ)) (answers : List Answered) → AreAnswersTo seen asks answers (Poll ∷ tasks) → Fits (imported now (progress (Poll ∷ tasks) doing held loaded answers))
  import_fits tasks Begun doing held loaded answers fits = record { done = fits.done; order = fits.order; each = fits.each }
  import_fits tasks (Putting files) doing held loaded answers fits = record { done = fits.done; order = fits.order; each = fits.each }
  import_fits tasks Staged doing held loaded answers fits = record { done = fits.done; order = fits.order; each = fits.each }
  import_fits tasks (Importing mark records) doing held loaded answers fits = record { done = fits.done; order = fits.order; each = fits.each }

  scan_fits : (mark : ℕ) (tasks : List Task) (now doing : Doing) (held : Option ℕ) (loaded : List (List ℕ)) (answers : List Answered) → AreAnswersTo seen asks answers (Poll ∷ tasks) → Fits (scanned mark now (progress (Poll ∷ tasks) doing held loaded answers))
  scan_fits mark tasks Begun doing held loaded answers fits = record { done = fits.done; order = fits.order; each = fits.each }
  scan_fits mark tasks (Putting files) doing held loaded answers fits = record { done = fits.done; order = fits.order; each = fits.each }
  scan_fits mark tasks Staged doing held loaded answers fits = record { done = fits.done; order = fits.order; each = fits.each }
  scan_fits mark tasks (Importing opened records) doing held loaded answers fits = record { done = fits.done; order = fits.order; each = fits.each }

  poll_fits : (outcome : Outcome) (tasks : List Task) (doing : Doing) (held : Option ℕ) (loaded : List (List ℕ)) (answers : List Answered) → AreAnswersTo seen asks answers (Poll ∷ tasks) → Fits (poll_told outcome (progress (Poll ∷ tasks) doing held loaded answers))
  poll_fits Done tasks doing held loaded answers fits = import_fits tasks doing doing held loaded answers fits
  poll_fits Written tasks doing held loaded answers fits = record { done = fits.done; order = fits.order; each = fits.each }
  poll_fits Shared tasks doing held loaded answers fits = record { done = fits.done; order = fits.order; each = fits.each }
  poll_fits Clash tasks doing held loaded answers fits = record { done = fits.done; order = fits.order; each = fits.each }
  poll_fits Synced tasks doing held loaded answers fits = record { done = fits.done; order = fits.order; each = fits.each }
  poll_fits Unsynced tasks doing held loaded answers fits = record { done = fits.done; order = fits.order; each = fits.each }
  poll_fits NoUnit tasks doing held loaded answers fits = record { done = fits.done; order = fits.order; each = fits.each }
  poll_fits (At mark) tasks doing held loaded answers fits = scan_fits mark tasks doing doing held loaded answers fits
  poll_fits (Removed name) tasks doing held loaded answers fits = record { done = fits.done; order = fits.order; each = fits.each }
  poll_fits Nothing tasks doing held loaded answers fits = record { done = fits.done; order = fits.order; each = fits.each }
  poll_fits Fault tasks doing held loaded answers fits = record { done = fits.done; order = fits.order; each = fits.each }
  poll_fits (Lost name) tasks doing held loaded answers fits = record { done = fits.done; order = fits.order; each = fits.each }
  poll_fits (Damaged name) tasks doing held loaded answers fits = record { done = fits.done; order = fits.order; each = fits.each }

  adopt_fits : (outcome : Outcome) (tasks : List Task) (doing : Doing) (held : Option ℕ) (loaded : List (List ℕ)) (answers : List Answered) → AreAnswersTo seen asks answers (Refresh ∷ tasks) → Fits (over (adopted outcome (progress (Refresh ∷ tasks) doing held loaded answers)))
  adopt_fits Done tasks doing held loaded answers fits = record { done = fits.done; order = fits.order; each = fits.each }
  adopt_fits Written tasks doing held loaded answers fits = record { done = fits.done; order = fits.order; each = fits.each }
  adopt_fits Shared tasks doing held loaded answers fits = record { done = fits.done; order = fits.order; each = fits.each }
  adopt_fits Clash tasks doing held loaded answers fits = record { done = fits.done; order = fits.order; each = fits.each }
  adopt_fits Synced tasks doing held loaded answers fits = record { done = fits.done; order = fits.order; each = fits.each }
  adopt_fits Unsynced tasks doing held loaded answers fits = record { done = fits.done; order = fits.order; each = fits.each }
  adopt_fits NoUnit tasks doing held loaded answers fits = record { done = fits.done; order = fits.order; each = fits.each }
  adopt_fits (At mark) tasks doing held loaded answers fits = record { done = fits.done; order = fits.order; each = fits.each }
  adopt_fits (Removed name) tasks doing held loaded answers fits = record { done = fits.done; order = fits.order; each = fits.each }
  adopt_fits Nothing tasks doing held loaded answers fits = record { done = fits.done; order = fits.order; each = fits.each }
  adopt_fits Fault tasks doing held loaded answers fits = record { done = fits.done; order = fits.order; each = fits.each }
  adopt_fits (Lost name) tasks doing held loaded answers fits = record { done = fits.done; order = fits.order; each = fits.each }
  adopt_fits (Damaged name) tasks doing held loaded answers fits = record { done = fits.done; order = fits.order; each = fits.each }

  ask_fits : (outcome : Outcome) (query : Query) (tasks : List Task) (doing : Doing) (held : Option ℕ) (loaded : List (List ℕ)) (answers : List Answered) → AreAnswersTo seen asks answers (Ask query ∷ tasks) → Fits (ask_told outcome (progress (Ask query ∷ tasks) doing held loaded answers))
  ask_fits Done query tasks doing held loaded answers fits = record { done = fits.done; order = fits.order; each = fits.each }
  ask_fits Written query tasks doing held loaded answers fits = record { done = fits.done; order = fits.order; each = fits.each }
  ask_fits Shared query tasks doing held loaded answers fits = record { done = fits.done; order = fits.order; each = fits.each }
  ask_fits Clash query tasks doing held loaded answers fits = record { done = fits.done; order = fits.order; each = fits.each }
  ask_fits Synced query tasks doing held loaded answers fits = record { done = fits.done; order = fits.order; each = fits.each }
  ask_fits Unsynced query tasks doing held loaded answers fits = record { done = fits.done; order = fits.order; each = fits.each }
  ask_fits NoUnit query tasks doing held loaded answers fits = record { done = fits.done; order = fits.order; each = fits.each }
  ask_fits (At mark) query tasks doing held loaded answers fits = record { done = fits.done; order = fits.order; each = fits.each }
  ask_fits (Removed name) query tasks doing held loaded answers fits = record { done = fits.done; order = fits.order; each = fits.each }
  ask_fits Nothing query tasks doing held loaded answers fits = record { done = fits.done; order = fits.order; each = fits.each }
  ask_fits Fault query tasks doing held loaded answers fits = one_more query tasks answers held result.Fault tt fits
  ask_fits (Lost name) query tasks doing held loaded answers fits = one_more query tasks answers held result.Lost tt fits
  ask_fits (Damaged name) query tasks doing held loaded answers fits = one_more query tasks answers held result.Damaged tt fits

  told_fits : (outcome : Outcome) (tasks : List Task) (doing : Doing) (held : Option ℕ) (loaded : List (List ℕ)) (answers : List Answered) → AreAnswersTo seen asks answers tasks → Fits (told outcome (progress tasks doing held loaded answers))
  told_fits outcome [] doing held loaded answers fits = fits
  told_fits outcome (Build job ∷ tasks) doing held loaded answers fits = built job tasks doing held loaded answers (build_goes_on outcome doing) fits
  told_fits outcome (Remove output ∷ tasks) doing held loaded answers fits = record { done = fits.done; order = fits.order; each = fits.each }
  told_fits outcome (Poll ∷ tasks) doing held loaded answers fits = poll_fits outcome tasks doing held loaded answers fits
  told_fits outcome (Refresh ∷ tasks) doing held loaded answers fits = adopt_fits outcome tasks doing held loaded answers fits
  told_fits outcome (Ask query ∷ tasks) doing held loaded answers fits = ask_fits outcome query tasks doing held loaded answers fits
  told_fits outcome (Release ∷ tasks) doing held loaded answers fits = record { done = fits.done; order = fits.order; each = fits.each }
  told_fits outcome (Collect ∷ tasks) doing held loaded answers fits = record { done = fits.done; order = fits.order; each = fits.each }

  some_fits : (name : Option (List ℕ)) (p : Progress) → Fits p → Fits (with_some name p)
  some_fits None p fits = fits
  some_fits (Some name) p fits = fits

  noted_fits : (event : Event) (p : Progress) → Fits p → Fits (noted event p)
  noted_fits event p fits =
      elim (is_asking p) as (λ b. Fits (if b then (if is_done event.outcome then with_some (loaded_by event.call) p else p) else p)) [
        | true ↦ elim (is_done event.outcome) as (λ b. Fits (if b then with_some (loaded_by event.call) p else p)) [
          | true ↦ some_fits (loaded_by event.call) p fits
          | false ↦ fits
        ]
        | false ↦ fits
      ]

  none_ends : (query : Query) (loaded : List (List ℕ)) (ended : AskResult) → Some result.NoneHeld ≡ Some ended → IsResultOf seen query None ended
  none_ends query loaded ended e = subst (λ (o : Option AskResult). of o) e refl
    where
      of : Option AskResult → Type 0
      of None = Unit {0}
      of (Some ended) = IsResultOf seen query None ended

  result_of : (query : Query) (held : Option ℕ) (loaded : List (List ℕ)) (ended : AskResult) → ended_at seen query held loaded ≡ Some ended → IsResultOf seen query held ended
  result_of query None loaded ended e = none_ends query loaded ended e
  result_of query (Some mark) loaded ended e =
      (elim (is_none (next_need query (seen mark) loaded)) as (λ b. (if b then Some (result.Rows (answer query (seen mark))) else None) ≡ Some ended → IsResultOf seen query (Some mark) ended) [
        | true ↦ λ is. rows ended is
        | false ↦ λ is. absurd (cc)
      ]) e
    where
      of : Option AskResult → Type 0
      of None = Unit {0}
      of (Some ended) = IsResultOf seen query (Some mark) ended

      rows : (ended : AskResult) → Some (result.Rows (answer query (seen mark))) ≡ Some ended → IsResultOf seen query (Some mark) ended
      rows ended is = subst (λ (o : Option AskResult). of o) is (mark, refl, refl)

  settled_fits : (tasks : List Task) (doing : Doing) (held : Option ℕ) (loaded : List (List ℕ)) (answers : List Answered) → AreAnswersTo seen asks answers tasks → Fits (settled_over seen tasks (progress tasks doing held loaded answers))
  settled_fits [] doing held loaded answers fits = fits
  settled_fits (Build job ∷ tasks) doing held loaded answers fits = fits
  settled_fits (Remove output ∷ tasks) doing held loaded answers fits = fits
  settled_fits (Poll ∷ tasks) doing held loaded answers fits = fits
  settled_fits (Refresh ∷ tasks) doing held loaded answers fits = fits
  settled_fits (Ask query ∷ tasks) doing held loaded answers fits =
      (elim (ended_at seen query held loaded) as (λ o. ended_at seen query held loaded ≡ o → Fits (unwrap_or (option_map (λ ended. settled_over seen tasks (answered ended (progress (Ask query ∷ tasks) doing held loaded answers))) o) (progress (Ask query ∷ tasks) doing held loaded answers))) [
        | None ↦ λ e. fits
        | Some ended ↦ λ e. settled_fits tasks Begun held loaded (answers ++ (record { mark = held; result = ended }) ∷ []) (one_more query tasks answers held ended (result_of query held loaded ended e) fits)
      ]) refl
  settled_fits (Release ∷ tasks) doing held loaded answers fits = fits
  settled_fits (Collect ∷ tasks) doing held loaded answers fits = fits

  event_fits : (event : Event) (p : Progress) → Fits p → Fits (after_event seen p event)
  event_fits event p fits =
      let q = noted event p in
      let r = told event.outcome q in
      settled_fits r.tasks r.doing r.held r.loaded r.answers (told_fits event.outcome q.tasks q.doing q.held q.loaded q.answers (noted_fits event p fits))

  events_fit : (events : List Event) (p : Progress) → Fits p → Fits (fold (after_event seen) p events)
  events_fit [] p fits = fits
  events_fit (event ∷ events) p fits = events_fit events (after_event seen p event) (event_fits event p fits)

pub answers_fit : (seen : ℕ → Units) (tasks : List Task) (events : List Event) → AreAnswersTo seen (asks_of tasks) (progress_after seen tasks events).answers (progress_after seen tasks events).tasks
answers_fit seen tasks events =
    events_fit seen (asks_of tasks) events (settled seen (begun tasks))
    (settled_fits seen (asks_of tasks) tasks Begun None [] [] (record { done = []; order = refl; each = tt }))
