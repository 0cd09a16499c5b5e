-- A lane has a call left exactly where it has a task left.
use Rattle.std.proofs.Common.{◌≡◌, ◌≢◌, ℕ, if◌then◌else◌, Bool, true, false, List, [], ◌∷◌, ◌++◌, slice_get, Option, Some, None, is_some, is_none, unwrap_or, option_map, option_and_then, fold, refl, sym, ap, ◌∙◌}
use Rattle.ix_record.specs.declared.body.Body.{Body}
use Rattle.ix_model.specs.Units.{Units}
use Rattle.ix_answers.specs.Answers.{answer}
use Rattle.ix_answers.specs.Needs.{next_need}
use Rattle.ix_jobs.specs.Made.{Made}
use Rattle.ix_machine.specs.declared.event.Event.{Event}
use Rattle.ix_machine.specs.declared.event.Outcome.{Outcome}
use Rattle.ix_machine.specs.declared.event.Purpose.TheVariants as purpose
use Rattle.ix_machine.specs.Given as given
use Rattle.ix_machine.specs.Given.{Given}
use Rattle.ix_machine.specs.Needs.{seen_at}
use Rattle.ix_lanes.specs.declared.answered.AskResult.TheVariants as result
use Rattle.ix_lanes.specs.declared.answered.Answered.{Answered}
use Rattle.ix_lanes.specs.declared.doing.Doing.{Doing}
use Rattle.ix_lanes.specs.declared.doing.Doing.TheVariants.{Begun, Putting, Staged, Importing}
use Rattle.ix_lanes.specs.Calls.{call_for, next_call, next_turn, put_or_stage, task_turn}
use Rattle.ix_lanes.specs.Progress.{Progress, after_event, answered, begun, noted, progress_after, settled, settled_over, told}
use Rattle.ix_lanes.specs.Tasks as task
use Rattle.ix_lanes.specs.Tasks.{Task}
use Rattle.ix_replays.specs.Laws.{RunFits}
use Rattle.ix_replays.specs.Run.{Run, extended, has_call, next_of, own_events, progress_of, with_event}
use Rattle.ix_machine.specs.Step.{Stepped, step}
use Rattle.ix_turn_order.specs.Order.{GoesOn}

abbrev at : List Task → Doing → Option ℕ → List (List ℕ) → List Answered → Progress
at tasks doing held loaded answers = record { tasks = tasks; doing = doing; held = held; loaded = loaded; answers = answers }

module _ (seen : ℕ → Units) (current : ℕ) where
  -- the lane has a call left exactly where it has a task left
  abbrev CallsByTasks : Progress → Type 0
  CallsByTasks p = is_some (next_call seen current p) ≡ is_some (slice_get p.tasks 0)

  puts_or_stages : (job : Made) (p : Progress) (o : Option Body) → is_some (call_for seen current p (put_or_stage job o)) ≡ true
  puts_or_stages job p None = refl
  puts_or_stages job p (Some body) = refl

  builds : (job : Made) (tasks : List Task) (doing : Doing) (held : Option ℕ) (loaded : List (List ℕ)) (answers : List Answered) → CallsByTasks (at (task.Build job ∷ tasks) doing held loaded answers)
  builds job tasks Begun held loaded answers = refl
  builds job tasks (Putting files) held loaded answers = puts_or_stages job (at (task.Build job ∷ tasks) (Putting files) held loaded answers) (slice_get job.bodies files)
  builds job tasks Staged held loaded answers = refl
  builds job tasks (Importing mark records) held loaded answers = refl

  polls : (tasks : List Task) (doing : Doing) (held : Option ℕ) (loaded : List (List ℕ)) (answers : List Answered) → CallsByTasks (at (task.Poll ∷ tasks) doing held loaded answers)
  polls tasks Begun held loaded answers = refl
  polls tasks (Putting files) held loaded answers = refl
  polls tasks Staged held loaded answers = refl
  polls tasks (Importing mark records) held loaded answers = refl

  settled_calls : (tasks : List Task) (doing : Doing) (held : Option ℕ) (loaded : List (List ℕ)) (answers : List Answered) → CallsByTasks (settled_over seen tasks (at tasks doing held loaded answers))
  settled_calls [] doing held loaded answers = refl
  settled_calls (task.Build job ∷ tasks) doing held loaded answers = builds job tasks doing held loaded answers
  settled_calls (task.Remove output ∷ tasks) doing held loaded answers = refl
  settled_calls (task.Poll ∷ tasks) doing held loaded answers = polls tasks doing held loaded answers
  settled_calls (task.Refresh ∷ tasks) doing held loaded answers = refl
  settled_calls (task.Ask query ∷ tasks) doing None loaded answers =
      settled_calls tasks Begun None loaded (answers ++ (record { mark = None; result = result.NoneHeld }) ∷ [])
  settled_calls (task.Ask query ∷ tasks) doing (Some mark) loaded answers =
      let p = at (task.Ask query ∷ tasks) doing (Some mark) loaded answers in
      (elim (next_need query (seen mark) loaded) as (λ o. next_need query (seen mark) loaded ≡ o → CallsByTasks (unwrap_or (option_map (λ ended. settled_over seen tasks (answered ended p)) (if is_none o then Some (result.Rows (answer query (seen mark))) else None)) p)) [
        | None ↦ λ e. settled_calls tasks Begun (Some mark) loaded (answers ++ (record { mark = Some mark; result = result.Rows (answer query (seen mark)) }) ∷ [])
        | Some name ↦ λ e. ap (λ (o : Option (List ℕ)). is_some (option_map (λ n. given.Load n purpose.Ask) o)) e
      ]) refl
  settled_calls (task.Release ∷ tasks) doing held loaded answers = refl
  settled_calls (task.Collect ∷ tasks) doing held loaded answers = refl

  -- ---- how far a lane is, behind its events

  along : (events : List Event) (start : Progress) → CallsByTasks (fold (after_event seen) (settled seen start) events)
  along [] start = settled_calls start.tasks start.doing start.held start.loaded start.answers
  along (event ∷ events) start = along events (told event.outcome (noted event (settled seen start)))

  pub lanes_call : (tasks : List Task) (events : List Event) → CallsByTasks (progress_after seen tasks events)
  lanes_call tasks events = along events (begun tasks)

module _ (name_of : List ℕ → List ℕ) (lanes : List (List Task)) where
  abbrev tasks_left : Run → ℕ → Option (List Task) → Bool
  tasks_left run lane o = is_some (option_and_then (λ (tasks : List Task). slice_get (progress_of run lane tasks).tasks 0) o)

  calls_over : (run : Run) (lane : ℕ) (o : Option (List Task)) → is_some (option_and_then (λ (tasks : List Task). next_call (seen_at run.state) run.state.current (progress_of run lane tasks)) o) ≡ tasks_left run lane o
  calls_over run lane None = refl
  calls_over run lane (Some tasks) = lanes_call (seen_at run.state) run.state.current tasks (own_events lane run.events)

  by_tasks : (run : Run) (lane : ℕ) → has_call name_of lanes run lane ≡ tasks_left run lane (slice_get lanes lane)
  by_tasks run lane = calls_over run lane (slice_get lanes lane)

  pub call_is_task : (run : Run) (lane : ℕ) (tasks : List Task) → slice_get lanes lane ≡ Some tasks → has_call name_of lanes run lane ≡ is_some (slice_get (progress_of run lane tasks).tasks 0)
  call_is_task run lane tasks there = by_tasks run lane ∙ ap (tasks_left run lane) there

  -- ---- other lanes

  same_left : (run longer : Run) (other : ℕ) → ((tasks : List Task) → progress_of longer other tasks ≡ progress_of run other tasks) → (o : Option (List Task)) → tasks_left longer other o ≡ tasks_left run other o
  same_left run longer other same None = refl
  same_left run longer other same (Some tasks) = ap (λ (p : Progress). is_some (slice_get p.tasks 0)) (same tasks)

  pub others_keep : (run longer : Run) (other : ℕ) → ((tasks : List Task) → progress_of longer other tasks ≡ progress_of run other tasks) → has_call name_of lanes longer other ≡ has_call name_of lanes run other
  others_keep run longer other same = by_tasks longer other ∙ (same_left run longer other same (slice_get lanes other) ∙ sym (by_tasks run other))

  -- ---- an event is a call's

  none_without : (run : Run) (lane : ℕ) (flag : Outcome) (o : Option Given) → is_some o ≡ false → option_and_then (λ given. option_map (with_event name_of run lane given) (step name_of run.state lane given flag)) o ≡ None
  none_without run lane flag None e = refl
  none_without run lane flag (Some given) e = absurd (cc)

  pub no_event : (run : Run) (lane : ℕ) (flag : Outcome) → has_call name_of lanes run lane ≡ false → extended name_of lanes run lane flag ≡ None
  no_event run lane flag e = none_without run lane flag (next_of name_of lanes run lane) e

  call_behind : (run longer : Run) (lane : ℕ) (flag : Outcome) (o : Option Given) → option_and_then (λ given. option_map (with_event name_of run lane given) (step name_of run.state lane given flag)) o ≡ Some longer → is_some o ≡ true
  call_behind run longer lane flag None e = absurd (cc)
  call_behind run longer lane flag (Some given) e = refl

  pub has_made : (run longer : Run) (lane : ℕ) (flag : Outcome) → extended name_of lanes run lane flag ≡ Some longer → has_call name_of lanes run lane ≡ true
  has_made run longer lane flag e = call_behind run longer lane flag (next_of name_of lanes run lane) e

  clash : (b : Bool) → b ≡ true → b ≡ false → ⊥
  clash b p q = cc

  -- lanes that have ended stay ended
  pub stays_ended : (others : (run longer : Run) (lane other : ℕ) (flag : Outcome) (tasks : List Task) → RunFits run → extended name_of lanes run lane flag ≡ Some longer → lane ≢ other
      → progress_of longer other tasks ≡ progress_of run other tasks)
      → (run next : Run) (lane other : ℕ) (made : Bool) → RunFits run → GoesOn name_of lanes run lane made next → has_call name_of lanes run other ≡ false → has_call name_of lanes next other ≡ false
  stays_ended others run next lane other true fits goes e =
      others_keep run next other (λ tasks. others run next lane other goes.0 tasks fits goes.1 (λ same. clash (has_call name_of lanes run other)
      (ap (has_call name_of lanes run) (sym same) ∙ has_made run next lane goes.0 goes.1) e)) ∙ e
  stays_ended others run next lane other false fits goes e = ap (λ (r : Run). has_call name_of lanes r other) goes.0 ∙ e

  -- ---- a lane's call is a step

  pub made_goes_on : (run : Run) (lane : ℕ) (tasks : List Task) (g : Given) (flag : Outcome) (stepped : Stepped) → slice_get lanes lane ≡ Some tasks
      → next_call (seen_at run.state) run.state.current (progress_of run lane tasks) ≡ Some g → step name_of run.state lane g flag ≡ Some stepped
      → extended name_of lanes run lane flag ≡ Some (with_event name_of run lane g stepped)
  made_goes_on run lane tasks g flag stepped there call taken =
      let next : next_of name_of lanes run lane ≡ Some g =
      ap (λ (o : Option (List Task)). option_and_then (λ (ts : List Task). next_call (seen_at run.state) run.state.current (progress_of run lane ts)) o) there ∙ call in
      ap (λ (o : Option Given). option_and_then (λ given. option_map (with_event name_of run lane given) (step name_of run.state lane given flag)) o) next
      ∙ ap (λ (o : Option Stepped). option_map (with_event name_of run lane g) o) taken

  no_task : (doing : Doing) (o : Option Task) → option_map (task_turn doing) o ≡ None → is_some o ≡ false
  no_task doing None e = refl
  no_task doing (Some t) e = absurd (cc)

  pub ended_has_none : (run : Run) (lane : ℕ) (tasks : List Task) → slice_get lanes lane ≡ Some tasks → next_turn (progress_of run lane tasks) ≡ None → has_call name_of lanes run lane ≡ false
  ended_has_none run lane tasks there none =
      let p = progress_of run lane tasks in
      call_is_task run lane tasks there ∙ no_task p.doing (slice_get p.tasks 0) none

  pub absent_has_none : (run : Run) (lane : ℕ) → slice_get lanes lane ≡ None → has_call name_of lanes run lane ≡ false
  absent_has_none run lane none = by_tasks run lane ∙ ap (tasks_left run lane) none
