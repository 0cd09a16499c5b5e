-- The tasks of an accepted script: jobs, and polls of one lane alone.
use Rattle.std.proofs.Common.{◌≡◌, ◌↔◌, inl, inr, ℕ, zero, suc, ◌≤◌, if◌then◌else◌, Bool, true, false, cond, ◌||◌, List, [], ◌∷◌, length, map, filter, Option, Some, None, Contains, slice_get, option_map, refl, sym, ap, ◌∙◌, subst, arith}
use Rattle.std.specs.List.{AllByRecursion}
use Rattle.std.specs.Str.{bytes_eq}
use Rattle.std.proofs.lemmas.Option.{slice_get-map}
use Rattle.ix_types.specs.Name.{IsFileName}
use Rattle.ix_record.specs.declared.body.Body.{Body}
use Rattle.ix_record.specs.Whole.{IsWhole}
use Rattle.ix_unit.specs.Value.{IsValidUnit}
use Rattle.ix_plan.specs.Keeps.{IsUnitPlan, IsShortUnit, IsStep, IsLane, IsAccepted}
use Rattle.ix_plan.specs.Reading.{polls, is_poll}
use Rattle.ix_plan.specs.declared.plan.Script.{Script}
use Rattle.ix_plan.specs.declared.plan.Step.{Step}
use Rattle.ix_plan.specs.declared.plan.Step.TheVariants as plan_step
use Rattle.ix_plan.specs.declared.plan.RecordPlan.{RecordPlan}
use Rattle.ix_plan.specs.declared.plan.UnitPlan.{UnitPlan}
use Rattle.ix_answers.proofs.Members.{Has, has, contains, any-in, equal}
use Rattle.ix_machine.specs.Needs.{has_name}
use Rattle.ix_jobs.specs.Made.{made_of, body_of, bytes_of}
use Rattle.ix_jobs.specs.Laws.{IsWrittenIn}
use Rattle.ix_jobs.specs.Rules.{HasRoom}
use Rattle.ix_lanes.specs.Tasks.{Task, task_of, tasks_of}
use Rattle.ix_replays.specs.Run.{lanes_of}
use Rattle.ix_allowed.specs.Agree.{IsJob, IsTaskOf, AreTasksOf}

-- the laws of jobs that are used here
pub record JobLaws : Type 0 where
  pub room : (plan : UnitPlan) → IsShortUnit plan → HasRoom plan
  pub valid : (name_of : List ℕ → List ℕ) (plan : UnitPlan) → ((bytes : List ℕ) → IsFileName (name_of bytes)) → IsUnitPlan plan → HasRoom plan → IsValidUnit (made_of name_of plan).unit
  pub whole : (name_of : List ℕ → List ℕ) (plan : UnitPlan) → IsUnitPlan plan → HasRoom plan → AllByRecursion (IsWhole name_of) (made_of name_of plan).bodies
  pub written : (name_of : List ℕ → List ℕ) (plan : UnitPlan) → AllByRecursion (IsWrittenIn (made_of name_of plan).bodies) (made_of name_of plan).unit.records
  pub bodies : (name_of : List ℕ → List ℕ) (plan : UnitPlan) (body : Body) → Contains (made_of name_of plan).bodies body ↔ ((each : RecordPlan) × Contains plan.records each × (body_of name_of each ≡ body))
  pub names : (name_of : List ℕ → List ℕ) (plan : UnitPlan) (name : List ℕ) → Contains (made_of name_of plan).names name ↔ ((each : RecordPlan) × Contains plan.records each × (name_of (bytes_of each) ≡ name))

all_of : {X : Type 0} (P : X → Type 0) (xs : List X) → ((x : X) → Has xs x → P x) → AllByRecursion P xs
all_of P [] f = tt
all_of P (x ∷ xs) f = (f x (inl refl), all_of P xs (λ y h. f y (inr h)))

lane_at : {X : Type 0} (P : X → Type 0) (xs : List X) (i : ℕ) (x : X) → AllByRecursion P xs → slice_get xs i ≡ Some x → P x
lane_at P [] i x all e = absurd (cc)
lane_at P (y ∷ ys) zero x all e = let same : y ≡ x = cc in subst P same all.0
lane_at P (y ∷ ys) (suc i) x all e = lane_at P ys i x all.1 e

-- ---- the lane that polls

abbrev pub poller_of : List (List Step) → ℕ
poller_of [] = 0
poller_of (lane ∷ lanes) = if polls lane then 0 else suc (poller_of lanes)

some_poll : (lanes : List (List Step)) (i : ℕ) (lane : List Step) → slice_get lanes i ≡ Some lane → polls lane ≡ true → 1 ≤ length (filter polls lanes)
some_poll [] i lane e p = absurd (cc)
some_poll (first ∷ lanes) zero lane e p =
    let same : first ≡ lane = cc in
    let polls_first : polls first ≡ true = ap polls same ∙ p in
    subst (λ (b : Bool). 1 ≤ length (cond b (first ∷ filter polls lanes) (filter polls lanes))) (sym polls_first) (omega arith)
some_poll (first ∷ lanes) (suc i) lane e p =
    let rest = some_poll lanes i lane e p in
    elim (polls first) as (λ b. 1 ≤ length (cond b (first ∷ filter polls lanes) (filter polls lanes))) [
      | true ↦ omega arith
      | false ↦ rest
    ]

pub is_poller : (lanes : List (List Step)) (i : ℕ) (lane : List Step) → length (filter polls lanes) ≤ 1 → slice_get lanes i ≡ Some lane → polls lane ≡ true → i ≡ poller_of lanes
is_poller [] i lane one e p = absurd (cc)
is_poller (first ∷ lanes) zero lane one e p =
    let same : first ≡ lane = cc in
    let polls_first : polls first ≡ true = ap polls same ∙ p in
    subst (λ (b : Bool). 0 ≡ cond b 0 (suc (poller_of lanes))) (sym polls_first) refl
is_poller (first ∷ lanes) (suc i) lane one e p =
    (elim (polls first) as (λ b. length (cond b (first ∷ filter polls lanes) (filter polls lanes)) ≤ 1 → suc i ≡ cond b 0 (suc (poller_of lanes))) [
      | true ↦ λ o. absurd (let more = some_poll lanes i lane e p in omega (arith, o, more))
      | false ↦ λ o. ap suc (is_poller lanes i lane o e p)
    ]) one

-- ---- jobs

module _ (laws : JobLaws) (name_of : List ℕ → List ℕ) (naming : (bytes : List ℕ) → IsFileName (name_of bytes)) where
  named_body : (plan : UnitPlan) (body : Body) → Has (made_of name_of plan).bodies body → has_name body.name (made_of name_of plan).names ≡ true
  named_body plan body h =
      let b = (laws.bodies name_of plan body).0 (contains (made_of name_of plan).bodies body h) in
      let n = (laws.names name_of plan body.name).1 (b.0, b.1, ap (λ (x : Body). x.name) b.2) in
      any-in (λ (other : List ℕ). bytes_eq other body.name) (made_of name_of plan).names body.name (has (made_of name_of plan).names body.name n) (equal body.name body.name refl)

  is_job : (plan : UnitPlan) → IsUnitPlan plan → IsShortUnit plan → IsJob name_of (made_of name_of plan)
  is_job plan rules short = record {
    valid = laws.valid name_of plan naming rules (laws.room plan short);
    whole = laws.whole name_of plan rules (laws.room plan short);
    named = all_of (λ (body : Body). has_name body.name (made_of name_of plan).names ≡ true) (made_of name_of plan).bodies (named_body plan);
    written = laws.written name_of plan;
  }

  right_or : (a b : Bool) → b ≡ true → (a || b) ≡ true
  right_or true b e = refl
  right_or false b e = e

  module _ (poller lane : ℕ) where
    step_task : (step : Step) → IsStep step → (is_poll step ≡ true → lane ≡ poller) → IsTaskOf name_of poller lane (task_of name_of step)
    step_task (plan_step.Build plan) is own = is_job plan is.0 is.1
    step_task (plan_step.Remove output) is own = tt
    step_task plan_step.Poll is own = own refl
    step_task plan_step.Refresh is own = tt
    step_task (plan_step.Ask query) is own = tt
    step_task plan_step.Release is own = tt
    step_task plan_step.Collect is own = tt

    left_or : (a b : Bool) → a ≡ true → (a || b) ≡ true
    left_or true b e = refl
    left_or false b e = absurd (cc)

    steps_tasks : (steps : List Step) → AllByRecursion IsStep steps → (polls steps ≡ true → lane ≡ poller) → AllByRecursion (IsTaskOf name_of poller lane) (map (task_of name_of) steps)
    steps_tasks [] all own = tt
    steps_tasks (step ∷ steps) all own = (
      step_task step all.0 (λ e. own (left_or (is_poll step) (polls steps) e)),
      steps_tasks steps all.1 (λ e. own (right_or (is_poll step) (polls steps) e)),
    )

  some_steps : (o : Option (List Step)) (tasks : List Task) → option_map (tasks_of name_of) o ≡ Some tasks → (steps : List Step) × (o ≡ Some steps) × (tasks_of name_of steps ≡ tasks)
  some_steps None tasks e = absurd (cc)
  some_steps (Some steps) tasks e = let same : tasks_of name_of steps ≡ tasks = cc in (steps, refl, same)

  pub tasks_ready : (script : Script) → IsAccepted script → AreTasksOf name_of (poller_of script.lanes) (lanes_of name_of script)
  tasks_ready script accepted lane tasks there =
      let s = some_steps (slice_get script.lanes lane) tasks (sym (slice_get-map (tasks_of name_of) script.lanes lane) ∙ there) in
      let few : IsLane s.0 = lane_at IsLane script.lanes lane s.0 accepted.lanes.1 s.1 in
      subst (λ (ts : List Task). AllByRecursion (IsTaskOf name_of (poller_of script.lanes) lane) ts) s.2
      (steps_tasks (poller_of script.lanes) lane s.0 few.1 (is_poller script.lanes lane s.0 accepted.one_poller s.1))
