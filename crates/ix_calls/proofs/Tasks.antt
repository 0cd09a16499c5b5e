-- Sound tasks give sound turns, and stay sound as a lane goes on.
use Rattle.std.proofs.Common.{◌≡◌, ◌⊎◌, inl, inr, ℕ, zero, suc, List, [], ◌∷◌, drop, Option, Some, None, option_map, unwrap_or, slice_get, refl, sym, ap, subst}
use Rattle.std.specs.List.{AllByRecursion}
use Rattle.ix_types.specs.Name.{IsFileName}
use Rattle.ix_plan.specs.declared.plan.Step.{Step}
use Rattle.ix_plan.specs.declared.plan.Step.TheVariants as step
use Rattle.ix_plan.specs.declared.plan.UnitPlan.{UnitPlan}
use Rattle.ix_plan.specs.Keeps.{IsUnitPlan}
use Rattle.ix_unit.specs.Value.{IsValidUnit}
use Rattle.ix_record.specs.declared.body.Body.{Body}
use Rattle.ix_record.specs.Whole.{IsWhole}
use Rattle.ix_model.specs.Units.{Units}
use Rattle.ix_machine.specs.declared.event.Outcome.{Outcome}
use Rattle.ix_machine.specs.declared.event.Outcome.TheVariants.{Done, Written, Shared, Clash, Synced, Unsynced, NoUnit, At, Removed, Nothing, Fault, Lost, Damaged}
use Rattle.ix_jobs.specs.Made as jobs
use Rattle.ix_jobs.specs.Made.{made_of}
use Rattle.ix_jobs.specs.Rules.{HasRoom}
use Rattle.ix_lanes.specs.declared.doing.Doing.{Doing}
use Rattle.ix_lanes.specs.declared.doing.Doing.TheVariants.{Begun, Putting, Staged, Importing}
use Rattle.ix_lanes.specs.Calls.{Turn, build_turn, next_turn, poll_turn, put_or_stage, task_turn}
use Rattle.ix_lanes.specs.declared.answered.AskResult.{AskResult}
use Rattle.ix_lanes.specs.declared.doing.Kind.{Kind}
use Rattle.ix_lanes.specs.declared.doing.Kind.TheVariants as kind
use Rattle.ix_lanes.specs.Progress.{Progress, adopted, answered, ask_told, build_goes_on, ended_at, goes_on, imported, poll_told, scanned, settled, settled_over, told_by}
use Rattle.ix_lanes.specs.Rules.{IsReady}
use Rattle.ix_lanes.specs.Tasks as task
use Rattle.ix_lanes.specs.Tasks.{Task, kind_of, task_of, tasks_of}
use Rattle.ix_seats.specs.declared.made.Made.{Made}
use Rattle.ix_seats.specs.declared.made.Made.TheVariants.{Ended, Loaded, TakenUp, LetGo}
use Rattle.ix_seats.specs.Made.{after}
use Rattle.ix_calls.specs.Sound.{AreSound, IsSoundJob, IsSoundTask, IsSoundTurn}
use Rattle.ix_calls.proofs.Turning.{some_is}

module _ (name_of : List ℕ → List ℕ) where
  abbrev Fits : Turn → Type 0
  Fits t = IsSoundTurn name_of t

  body_at : (bodies : List Body) (k : ℕ) (body : Body) → AllByRecursion (IsWhole name_of) bodies → slice_get bodies k ≡ Some body → IsWhole name_of body
  body_at [] zero body all is = absurd (cc)
  body_at [] (suc k) body all is = absurd (cc)
  body_at (b ∷ bodies) zero body all is = subst (λ (x : Body). IsWhole name_of x) (some_is is) all.0
  body_at (b ∷ bodies) (suc k) body all is = body_at bodies k body all.1 is

  put_fits : (job : jobs.Made) (k : ℕ) → IsSoundJob name_of job → (o : Option Body) → slice_get job.bodies k ≡ o → Fits (put_or_stage job o)
  put_fits job k sound None is = sound.valid
  put_fits job k sound (Some body) is = body_at job.bodies k body sound.whole is

  build_fits : (job : jobs.Made) (doing : Doing) → IsSoundJob name_of job → Fits (build_turn job doing)
  build_fits job Begun sound = tt
  build_fits job (Putting files) sound = put_fits job files sound (slice_get job.bodies files) refl
  build_fits job Staged sound = tt
  build_fits job (Importing mark records) sound = tt

  poll_fits : (doing : Doing) → Fits (poll_turn doing)
  poll_fits Begun = tt
  poll_fits (Putting files) = tt
  poll_fits Staged = tt
  poll_fits (Importing mark records) = tt

  first_fits : (doing : Doing) (tasks : List Task) (t : Turn) → AreSound name_of tasks → option_map (task_turn doing) (slice_get tasks 0) ≡ Some t → Fits t
  first_fits doing [] t sound is = absurd (cc)
  first_fits doing (task.Build job ∷ tasks) t sound is = subst (λ (u : Turn). Fits u) (some_is is) (build_fits job doing sound.0)
  first_fits doing (task.Remove output ∷ tasks) t sound is = subst (λ (u : Turn). Fits u) (some_is is) tt
  first_fits doing (task.Poll ∷ tasks) t sound is = subst (λ (u : Turn). Fits u) (some_is is) (poll_fits doing)
  first_fits doing (task.Refresh ∷ tasks) t sound is = subst (λ (u : Turn). Fits u) (some_is is) tt
  first_fits doing (task.Ask query ∷ tasks) t sound is = subst (λ (u : Turn). Fits u) (some_is is) tt
  first_fits doing (task.Release ∷ tasks) t sound is = subst (λ (u : Turn). Fits u) (some_is is) tt
  first_fits doing (task.Collect ∷ tasks) t sound is = subst (λ (u : Turn). Fits u) (some_is is) tt

  pub turn_fits : (p : Progress) (t : Turn) → AreSound name_of p.tasks → next_turn p ≡ Some t → Fits t
  turn_fits p t sound is = first_fits p.doing p.tasks t sound is

  -- ---- the tasks that are left

  -- the tasks are those from before, or those behind the first
  abbrev Tail : List Task → List Task → Type 0
  Tail before after = (after ≡ before) ⊎ (after ≡ drop 1 before)

  goes_tail : (o : Option Doing) (p : Progress) → Tail p.tasks (goes_on o p).tasks
  goes_tail None p = inr refl
  goes_tail (Some doing) p = inl refl

  imported_tail : (doing : Doing) (p : Progress) → Tail p.tasks (imported doing p).tasks
  imported_tail Begun p = inr refl
  imported_tail (Putting files) p = inr refl
  imported_tail Staged p = inr refl
  imported_tail (Importing mark records) p = inl refl

  scanned_tail : (mark : ℕ) (doing : Doing) (p : Progress) → Tail p.tasks (scanned mark doing p).tasks
  scanned_tail mark Begun p = inl refl
  scanned_tail mark (Putting files) p = inr refl
  scanned_tail mark Staged p = inr refl
  scanned_tail mark (Importing opened records) p = inr refl

  poll_tail : (how : Outcome) (p : Progress) → Tail p.tasks (poll_told how p).tasks
  poll_tail Done p = imported_tail p.doing p
  poll_tail Written p = inr refl
  poll_tail Shared p = inr refl
  poll_tail Clash p = inr refl
  poll_tail Synced p = inr refl
  poll_tail Unsynced p = inr refl
  poll_tail NoUnit p = inr refl
  poll_tail (At mark) p = scanned_tail mark p.doing p
  poll_tail (Removed name) p = inr refl
  poll_tail Nothing p = inr refl
  poll_tail Fault p = inr refl
  poll_tail (Lost name) p = inr refl
  poll_tail (Damaged name) p = inr refl

  adopted_same : (how : Outcome) (p : Progress) → (adopted how p).tasks ≡ p.tasks
  adopted_same Done p = refl
  adopted_same Written p = refl
  adopted_same Shared p = refl
  adopted_same Clash p = refl
  adopted_same Synced p = refl
  adopted_same Unsynced p = refl
  adopted_same NoUnit p = refl
  adopted_same (At mark) p = refl
  adopted_same (Removed name) p = refl
  adopted_same Nothing p = refl
  adopted_same Fault p = refl
  adopted_same (Lost name) p = refl
  adopted_same (Damaged name) p = refl

  ask_tail : (how : Outcome) (p : Progress) → Tail p.tasks (ask_told how p).tasks
  ask_tail Done p = inl refl
  ask_tail Written p = inl refl
  ask_tail Shared p = inl refl
  ask_tail Clash p = inl refl
  ask_tail Synced p = inl refl
  ask_tail Unsynced p = inl refl
  ask_tail NoUnit p = inl refl
  ask_tail (At mark) p = inl refl
  ask_tail (Removed name) p = inl refl
  ask_tail Nothing p = inl refl
  ask_tail Fault p = inr refl
  ask_tail (Lost name) p = inr refl
  ask_tail (Damaged name) p = inr refl

  told_tail : (k : Kind) (how : Outcome) (p : Progress) → Tail p.tasks (told_by k how p).tasks
  told_tail kind.Ended how p = inl refl
  told_tail kind.Build how p = goes_tail (build_goes_on how p.doing) p
  told_tail kind.Remove how p = inr refl
  told_tail kind.Poll how p = poll_tail how p
  told_tail kind.Refresh how p = inr (ap (λ (tasks : List Task). drop 1 tasks) (adopted_same how p))
  told_tail kind.Ask how p = ask_tail how p
  told_tail kind.Release how p = inr refl
  told_tail kind.Collect how p = inr refl

  made_tail : (made : Made) (p : Progress) → Tail p.tasks (after made p).tasks
  made_tail (Ended how) p = told_tail (kind_of p.tasks) how p
  made_tail (Loaded name body) p = inl refl
  made_tail (TakenUp how version) p = told_tail (kind_of p.tasks) how p
  made_tail (LetGo how) p = told_tail (kind_of p.tasks) how p

  rest_sound : (tasks : List Task) → AreSound name_of tasks → AreSound name_of (drop 1 tasks)
  rest_sound [] sound = sound
  rest_sound (first ∷ tasks) sound = sound.1

  tail_sound : (before after : List Task) → Tail before after → AreSound name_of before → AreSound name_of after
  tail_sound before after (inl is) sound = subst (λ (tasks : List Task). AreSound name_of tasks) (sym is) sound
  tail_sound before after (inr is) sound = subst (λ (tasks : List Task). AreSound name_of tasks) (sym is) (rest_sound before sound)

  pub made_sound : (p : Progress) (made : Made) → AreSound name_of p.tasks → AreSound name_of (after made p).tasks
  made_sound p made sound = tail_sound p.tasks (after made p).tasks (made_tail made p) sound

  pub left_sound : (tasks : List Task) (gone : ℕ) → AreSound name_of tasks → AreSound name_of (drop gone tasks)
  left_sound tasks zero sound = sound
  left_sound [] (suc gone) sound = sound
  left_sound (first ∷ tasks) (suc gone) sound = left_sound tasks gone sound.1

  -- an ask in front that has its result is over
  over_sound : (more : Progress → Progress) (p : Progress) (o : Option AskResult) → ((q : Progress) → AreSound name_of q.tasks → AreSound name_of (more q).tasks) → AreSound name_of p.tasks
      → AreSound name_of (unwrap_or (option_map (λ ended. more (answered ended p)) o) p).tasks
  over_sound more p None goes sound = sound
  over_sound more p (Some ended) goes sound = goes (answered ended p) (rest_sound p.tasks sound)

  settled_sound : (seen : ℕ → Units) (tasks : List Task) (p : Progress) → AreSound name_of p.tasks → AreSound name_of (settled_over seen tasks p).tasks
  settled_sound seen [] p sound = sound
  settled_sound seen (task.Build job ∷ tasks) p sound = sound
  settled_sound seen (task.Remove output ∷ tasks) p sound = sound
  settled_sound seen (task.Poll ∷ tasks) p sound = sound
  settled_sound seen (task.Refresh ∷ tasks) p sound = sound
  settled_sound seen (task.Ask query ∷ tasks) p sound = over_sound (settled_over seen tasks) p (ended_at seen query p.held p.loaded) (λ q. settled_sound seen tasks q) sound
  settled_sound seen (task.Release ∷ tasks) p sound = sound
  settled_sound seen (task.Collect ∷ tasks) p sound = sound

  pub settles_sound : (p : Progress) (seen : ℕ → Units) → AreSound name_of p.tasks → AreSound name_of (settled seen p).tasks
  settles_sound p seen sound = settled_sound seen p.tasks p sound

  -- ---- what steps ask for

  pub record Jobs : Type 0 where
    pub unit : (plan : UnitPlan) → ((bytes : List ℕ) → IsFileName (name_of bytes)) → IsUnitPlan plan → HasRoom plan → IsValidUnit (made_of name_of plan).unit
    pub whole : (plan : UnitPlan) → IsUnitPlan plan → HasRoom plan → AllByRecursion (IsWhole name_of) (made_of name_of plan).bodies

  step_sound : Jobs → ((bytes : List ℕ) → IsFileName (name_of bytes)) → (one : Step) → IsReady one → IsSoundTask name_of (task_of name_of one)
  step_sound all named (step.Build plan) ready = record { whole = all.whole plan ready.0 ready.1; valid = all.unit plan named ready.0 ready.1 }
  step_sound all named (step.Remove output) ready = tt
  step_sound all named step.Poll ready = tt
  step_sound all named step.Refresh ready = tt
  step_sound all named (step.Ask query) ready = tt
  step_sound all named step.Release ready = tt
  step_sound all named step.Collect ready = tt

  pub steps_sound : Jobs → ((bytes : List ℕ) → IsFileName (name_of bytes)) → (steps : List Step) → AllByRecursion IsReady steps → AreSound name_of (tasks_of name_of steps)
  steps_sound all named [] ready = tt
  steps_sound all named (one ∷ steps) ready = (step_sound all named one ready.0, steps_sound all named steps ready.1)
