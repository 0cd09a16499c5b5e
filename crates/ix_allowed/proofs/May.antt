-- Each call that a lane makes next may be made.
use Rattle.std.proofs.Common.{◌≡◌, ℕ, zero, suc, Bool, true, false, ◌||◌, List, [], ◌∷◌, map, Option, Some, None, is_some, IfSome, option_map, option_and_then, slice_get, refl, sym, ap, ◌∙◌, subst}
use Rattle.std.specs.List.{AllByRecursion, list_any}
use Rattle.std.specs.Str.{bytes_eq}
use Rattle.ix_types.specs.declared.row.Query.{Query}
use Rattle.ix_record.specs.declared.body.Body.{Body}
use Rattle.ix_unit.specs.declared.value.RecordDep.{RecordDep}
use Rattle.ix_model.specs.Units.{Units}
use Rattle.ix_answers.specs.Needs.{next_need}
use Rattle.ix_machine.specs.declared.event.Purpose.TheVariants.{Ask}
use Rattle.ix_machine.specs.Given.{Given}
use Rattle.ix_machine.specs.Given as given
use Rattle.ix_machine.specs.Needs.{has_name, seen_at, units_need}
use Rattle.ix_machine.specs.Run.{MayCall}
use Rattle.ix_machine.specs.State as state
use Rattle.ix_machine.specs.State.{State, lease_of, held_by}
use Rattle.ix_jobs.specs.Made.{Made}
use Rattle.ix_jobs.specs.Laws.{IsWrittenIn}
use Rattle.ix_lanes.specs.declared.doing.Doing.{Doing}
use Rattle.ix_lanes.specs.declared.doing.Doing.TheVariants.{Begun, Putting, Staged, Importing}
use Rattle.ix_lanes.specs.declared.answered.Answered.{Answered}
use Rattle.ix_lanes.specs.Tasks.{Task}
use Rattle.ix_lanes.specs.Tasks as task
use Rattle.ix_lanes.specs.Calls.{next_call, call_for, fresh_in, load_or_install, put_or_stage}
use Rattle.ix_lanes.specs.Progress.{Progress}
use Rattle.ix_replays.specs.Run.{Run, next_of, progress_of}
use Rattle.ix_allowed.specs.Agree.{names_put, AreTasksOf, IsTaskOf, LaneAgrees, LanesAgree}
use Rattle.ix_allowed.proofs.Runs.{lane_agrees, lane_tasks}
use Rattle.ix_allowed.proofs.Steps.{at, all_put}

all_at : {X : Type 0} (P : X → Type 0) (xs : List X) (i : ℕ) (x : X) → AllByRecursion P xs → slice_get xs i ≡ Some x → P x
all_at P [] i x all e = absurd (cc)
all_at P (y ∷ ys) zero x all e = let same : y ≡ x = cc in subst P same all.0
all_at P (y ∷ ys) (suc i) x all e = all_at P ys i x all.1 e

any_name : (name : List ℕ) (bodies : List Body) → list_any (λ (body : Body). bytes_eq body.name name) bodies ≡ has_name name (map (λ (body : Body). body.name) bodies)
any_name name [] = refl
any_name name (body ∷ bodies) = ap (λ (b : Bool). bytes_eq body.name name || b) (any_name name bodies)

-- each record of the unit is among the names that are put
all_written : (bodies : List Body) (put : List (List ℕ)) → map (λ (body : Body). body.name) bodies ≡ put → (deps : List RecordDep) → AllByRecursion (IsWrittenIn bodies) deps → AllByRecursion (λ (dep : RecordDep). has_name dep.name put ≡ true) deps
all_written bodies put is [] all = tt
all_written bodies put is (dep ∷ deps) all = (ap (has_name dep.name) (sym is) ∙ (sym (any_name dep.name bodies) ∙ all.0), all_written bodies put is deps all.1)

module _ (asked : (query : Query) (units : Units) (loaded : List (List ℕ)) (name : List ℕ) → next_need query units loaded ≡ Some name → units_need name units ≡ true)
    (imported : (before after : Units) (place : ℕ) (name : List ℕ) → slice_get (fresh_in before after) place ≡ Some name → (units_need name after ≡ true) × (units_need name before ≡ false))
    (name_of : List ℕ → List ℕ) (poller : ℕ) (s : State) (lane : ℕ) where
  abbrev Tasks : List Task → Type 0
  Tasks tasks = AllByRecursion (IsTaskOf name_of poller lane) tasks

  abbrev May : Option Given → Type 0
  May o = IfSome o (MayCall name_of s lane)

  build_may : (job : Made) (tasks : List Task) (doing : Doing) (held : Option ℕ) (loaded : List (List ℕ)) (answers : List Answered) → Tasks (task.Build job ∷ tasks) → LaneAgrees s lane (at (task.Build job ∷ tasks) doing held loaded answers)
      → May (next_call (seen_at s) s.current (at (task.Build job ∷ tasks) doing held loaded answers))
  build_may job tasks Begun held loaded answers all agrees = agrees.lease
  build_may job tasks (Putting files) held loaded answers all agrees =
      let lease : state.Lease = record { names = job.names; put = names_put job files; staged = None } in
      (elim (slice_get job.bodies files) as (λ o. slice_get job.bodies files ≡ o → May (call_for (seen_at s) s.current (at (task.Build job ∷ tasks) (Putting files) held loaded answers) (put_or_stage job o))) [
        | None ↦ λ is. (lease, agrees.lease, refl, (all.0.valid, all_written job.bodies (names_put job files) (sym (all_put job.bodies files is)) job.unit.records all.0.written))
        | Some body ↦ λ is. (lease, agrees.lease, refl, (all_at (λ (b : Body). has_name b.name job.names ≡ true) job.bodies files body all.0.named is, all_at _ job.bodies files body all.0.whole is))
      ]) refl
  build_may job tasks Staged held loaded answers all agrees = ap (λ (o : Option state.Lease). is_some (option_and_then (λ (l : state.Lease). l.staged) o)) agrees.lease
  build_may job tasks (Importing mark records) held loaded answers all agrees = absurd agrees.doing

  poll_may : (tasks : List Task) (doing : Doing) (held : Option ℕ) (loaded : List (List ℕ)) (answers : List Answered) → LaneAgrees s lane (at (task.Poll ∷ tasks) doing held loaded answers)
      → May (next_call (seen_at s) s.current (at (task.Poll ∷ tasks) doing held loaded answers))
  poll_may tasks Begun held loaded answers agrees = tt
  poll_may tasks (Putting files) held loaded answers agrees = absurd agrees.doing
  poll_may tasks Staged held loaded answers agrees = absurd agrees.doing
  poll_may tasks (Importing mark records) held loaded answers agrees =
      let opened : state.Import = record { lane = lane; mark = mark } in
      let fresh = fresh_in (seen_at s s.current) (seen_at s mark) in
      (elim (slice_get fresh records) as (λ o. slice_get fresh records ≡ o → MayCall name_of s lane (load_or_install o)) [
        | None ↦ λ is. record { open_import = opened; is_open = agrees.import; own = refl }
        | Some name ↦ λ is.
            let f = imported (seen_at s s.current) (seen_at s mark) records name is in
            record { open_import = opened; is_open = agrees.import; needed = f.0; new = f.1 }
      ]) refl

  ask_may : (query : Query) (tasks : List Task) (doing : Doing) (held : Option ℕ) (loaded : List (List ℕ)) (answers : List Answered) → held_by s lane ≡ held
      → May (next_call (seen_at s) s.current (at (task.Ask query ∷ tasks) doing held loaded answers))
  ask_may query tasks doing None loaded answers agree = tt
  ask_may query tasks doing (Some mark) loaded answers agree =
      (elim (next_need query (seen_at s mark) loaded) as (λ o. next_need query (seen_at s mark) loaded ≡ o → May (option_map (λ name. given.Load name Ask) o)) [
        | None ↦ λ is. tt
        | Some name ↦ λ is. record { mark = mark; held = agree; needed = asked query (seen_at s mark) loaded name is }
      ]) refl

  task_may : (tasks : List Task) (doing : Doing) (held : Option ℕ) (loaded : List (List ℕ)) (answers : List Answered) → Tasks tasks → LaneAgrees s lane (at tasks doing held loaded answers)
      → May (next_call (seen_at s) s.current (at tasks doing held loaded answers))
  task_may [] doing held loaded answers all agrees = tt
  task_may (task.Build job ∷ tasks) doing held loaded answers all agrees = build_may job tasks doing held loaded answers all agrees
  task_may (task.Remove output ∷ tasks) doing held loaded answers all agrees = tt
  task_may (task.Poll ∷ tasks) doing held loaded answers all agrees = poll_may tasks doing held loaded answers agrees
  task_may (task.Refresh ∷ tasks) doing held loaded answers all agrees = tt
  task_may (task.Ask query ∷ tasks) doing held loaded answers all agrees = ask_may query tasks doing held loaded answers agrees.held
  task_may (task.Release ∷ tasks) doing held loaded answers all agrees = tt
  task_may (task.Collect ∷ tasks) doing held loaded answers all agrees = tt

  pub next_may : (p : Progress) (g : Given) → Tasks p.tasks → LaneAgrees s lane p → next_call (seen_at s) s.current p ≡ Some g → MayCall name_of s lane g
  next_may p g all agrees e = subst May e (task_may p.tasks p.doing p.held p.loaded p.answers all agrees)

-- the same of a run
module _ (asked : (query : Query) (units : Units) (loaded : List (List ℕ)) (name : List ℕ) → next_need query units loaded ≡ Some name → units_need name units ≡ true)
    (imported : (before after : Units) (place : ℕ) (name : List ℕ) → slice_get (fresh_in before after) place ≡ Some name → (units_need name after ≡ true) × (units_need name before ≡ false))
    (name_of : List ℕ → List ℕ) (poller : ℕ) (lanes : List (List Task)) (run : Run) (lane : ℕ) (g : Given)
    (ready : AreTasksOf name_of poller lanes) (agrees : LanesAgree poller lanes run) where
  by_tasks : (o : Option (List Task)) → slice_get lanes lane ≡ o → option_and_then (λ tasks. next_call (seen_at run.state) run.state.current (progress_of run lane tasks)) o ≡ Some g → MayCall name_of run.state lane g
  by_tasks None there e = absurd (cc)
  by_tasks (Some tasks) there e =
      next_may asked imported name_of poller run.state lane (progress_of run lane tasks) g (lane_tasks name_of poller lanes ready run lane tasks there) (lane_agrees name_of poller lanes ready run agrees lane tasks there) e

  pub call_may : next_of name_of lanes run lane ≡ Some g → MayCall name_of run.state lane g
  call_may e = by_tasks (slice_get lanes lane) refl e
