-- What asks that are answered leave alone, and which lane imports.
use Rattle.std.proofs.Common.{◌≡◌, ℕ, true, false, List, [], ◌∷◌, Option, Some, None, IfSome, option_map, option_and_then, slice_get, unwrap_or, refl, subst}
use Rattle.std.specs.List.{AllByRecursion}
use Rattle.ix_types.specs.declared.row.Query.{Query}
use Rattle.ix_record.specs.declared.body.Body.{Body}
use Rattle.ix_model.specs.Units.{Units}
use Rattle.ix_answers.specs.Needs.{next_need}
use Rattle.ix_machine.specs.declared.event.Purpose.TheVariants as purpose
use Rattle.ix_machine.specs.Given.{Given}
use Rattle.ix_machine.specs.Given as given
use Rattle.ix_machine.specs.State.{State}
use Rattle.ix_import.specs.Importing.{Importing as Importer}
use Rattle.ix_jobs.specs.Made.{Made}
use Rattle.ix_lanes.specs.declared.answered.AskResult.{AskResult}
use Rattle.ix_lanes.specs.declared.doing.Doing.{Doing}
use Rattle.ix_lanes.specs.declared.doing.Doing.TheVariants.{Begun, Putting, Staged, Importing}
use Rattle.ix_lanes.specs.Calls.{ask_call, build_turn, call_for, next_call, put_or_stage, task_turn}
use Rattle.ix_lanes.specs.Progress.{Progress, answered, ended_at, settled, settled_over}
use Rattle.ix_lanes.specs.Tasks.{Task}
use Rattle.ix_lanes.specs.Tasks as task
use Rattle.ix_allowed.specs.Agree.{IsTaskOf}
use Rattle.ix_allowed.specs.Agree as agree
use Rattle.ix_polls.specs.Following.{IsUnderWay, leaves_import}

-- ---- asks that are answered

module _ (seen : ℕ → Units) (tasks : List Task) (p : Progress) where
  held_then : ((q : Progress) → (settled_over seen tasks q).held ≡ q.held) → (o : Option AskResult) → (unwrap_or (option_map (λ ended. settled_over seen tasks (answered ended p)) o) p).held ≡ p.held
  held_then more None = refl
  held_then more (Some ended) = more (answered ended p)

  way_then : (s : State) (lane : ℕ) (importer : Importer) → ((q : Progress) → IsUnderWay s lane q.doing importer → IsUnderWay s lane (settled_over seen tasks q).doing importer) → IsUnderWay s lane p.doing importer
      → (o : Option AskResult) → IsUnderWay s lane (unwrap_or (option_map (λ ended. settled_over seen tasks (answered ended p)) o) p).doing importer
  way_then s lane importer more way None = way
  way_then s lane importer more way (Some ended) = more (answered ended p) tt

held_over : (seen : ℕ → Units) (tasks : List Task) (p : Progress) → (settled_over seen tasks p).held ≡ p.held
held_over seen [] p = refl
held_over seen (task.Build job ∷ tasks) p = refl
held_over seen (task.Remove output ∷ tasks) p = refl
held_over seen (task.Poll ∷ tasks) p = refl
held_over seen (task.Refresh ∷ tasks) p = refl
held_over seen (task.Ask query ∷ tasks) p = held_then seen tasks p (held_over seen tasks) (ended_at seen query p.held p.loaded)
held_over seen (task.Release ∷ tasks) p = refl
held_over seen (task.Collect ∷ tasks) p = refl

way_over : (seen : ℕ → Units) (s : State) (lane : ℕ) (importer : Importer) (tasks : List Task) (p : Progress) → IsUnderWay s lane p.doing importer → IsUnderWay s lane (settled_over seen tasks p).doing importer
way_over seen s lane importer [] p way = way
way_over seen s lane importer (task.Build job ∷ tasks) p way = way
way_over seen s lane importer (task.Remove output ∷ tasks) p way = way
way_over seen s lane importer (task.Poll ∷ tasks) p way = way
way_over seen s lane importer (task.Refresh ∷ tasks) p way = way
way_over seen s lane importer (task.Ask query ∷ tasks) p way =
    way_then seen tasks p s lane importer (way_over seen s lane importer tasks) way (ended_at seen query p.held p.loaded)
way_over seen s lane importer (task.Release ∷ tasks) p way = way
way_over seen s lane importer (task.Collect ∷ tasks) p way = way

-- they change nothing of what the lane holds
pub settled_held : (seen : ℕ → Units) (p : Progress) → (settled seen p).held ≡ p.held
settled_held seen p = held_over seen p.tasks p

-- and nothing of its import
pub settled_way : (seen : ℕ → Units) (s : State) (lane : ℕ) (importer : Importer) (p : Progress) → IsUnderWay s lane p.doing importer → IsUnderWay s lane (settled seen p).doing importer
settled_way seen s lane importer p way = way_over seen s lane importer p.tasks p way

-- ---- a call that doesn't leave the import is the poller's

abbrev Leaves : Option Given → Type 0
Leaves o = IfSome o (λ given. leaves_import given ≡ true)

contrary : (o : Option Given) (call : Given) → Leaves o → o ≡ Some call → leaves_import call ≡ false → ⊥
contrary o call leaves is off = let on : leaves_import call ≡ true = subst Leaves is leaves in absurd (cc)

module _ (seen : ℕ → Units) (current : ℕ) (p : Progress) where
  put_leaves : (job : Made) (o : Option Body) → Leaves (call_for seen current p (put_or_stage job o))
  put_leaves job None = refl
  put_leaves job (Some body) = refl

  build_leaves : (job : Made) (doing : Doing) → Leaves (call_for seen current p (build_turn job doing))
  build_leaves job Begun = refl
  build_leaves job (Putting files) = put_leaves job (slice_get job.bodies files)
  build_leaves job Staged = refl
  build_leaves job (Importing mark records) = refl

  need_leaves : (o : Option (List ℕ)) → Leaves (option_map (λ name. given.Load name purpose.Ask) o)
  need_leaves None = tt
  need_leaves (Some name) = refl

  ask_leaves : (query : Query) (held : Option ℕ) (loaded : List (List ℕ)) → Leaves (ask_call seen current query held loaded)
  ask_leaves query None loaded = tt
  ask_leaves query (Some mark) loaded = need_leaves (next_need query (seen mark) loaded)

  polls_by : (name_of : List ℕ → List ℕ) (poller lane : ℕ) (tasks : List Task) (call : Given) → AllByRecursion (IsTaskOf name_of poller lane) tasks
      → option_and_then (call_for seen current p) (option_map (task_turn p.doing) (slice_get tasks 0)) ≡ Some call → leaves_import call ≡ false → lane ≡ poller
  polls_by name_of poller lane [] call all is off = absurd (cc)
  polls_by name_of poller lane (task.Build job ∷ tasks) call all is off = absurd (contrary (call_for seen current p (build_turn job p.doing)) call (build_leaves job p.doing) is off)
  polls_by name_of poller lane (task.Remove output ∷ tasks) call all is off = absurd (contrary (Some (given.Remove output)) call refl is off)
  polls_by name_of poller lane (task.Poll ∷ tasks) call all is off = all.0
  polls_by name_of poller lane (task.Refresh ∷ tasks) call all is off = absurd (contrary (Some given.Adopt) call refl is off)
  polls_by name_of poller lane (task.Ask query ∷ tasks) call all is off = absurd (contrary (ask_call seen current query p.held p.loaded) call (ask_leaves query p.held p.loaded) is off)
  polls_by name_of poller lane (task.Release ∷ tasks) call all is off = absurd (contrary (Some given.Release) call refl is off)
  polls_by name_of poller lane (task.Collect ∷ tasks) call all is off = absurd (contrary (Some given.Collect) call refl is off)

  pub call_polls : (name_of : List ℕ → List ℕ) (poller lane : ℕ) (call : Given) → AllByRecursion (IsTaskOf name_of poller lane) p.tasks
      → next_call seen current p ≡ Some call → leaves_import call ≡ false → lane ≡ poller
  call_polls name_of poller lane call all is off = polls_by name_of poller lane p.tasks call all is off

-- a lane that is at an import is the poller
import_polls : (name_of : List ℕ → List ℕ) (poller lane : ℕ) (tasks : List Task) (mark records : ℕ) → AllByRecursion (IsTaskOf name_of poller lane) tasks → agree.IsUnderWay tasks (Importing mark records) → lane ≡ poller
import_polls name_of poller lane [] mark records all far = absurd (cc)
import_polls name_of poller lane (task.Build job ∷ tasks) mark records all far = absurd far
import_polls name_of poller lane (task.Remove output ∷ tasks) mark records all far = absurd (cc)
import_polls name_of poller lane (task.Poll ∷ tasks) mark records all far = all.0
import_polls name_of poller lane (task.Refresh ∷ tasks) mark records all far = absurd (cc)
import_polls name_of poller lane (task.Ask query ∷ tasks) mark records all far = absurd (cc)
import_polls name_of poller lane (task.Release ∷ tasks) mark records all far = absurd (cc)
import_polls name_of poller lane (task.Collect ∷ tasks) mark records all far = absurd (cc)

-- a lane that isn't the poller is at no import
pub no_import : (name_of : List ℕ → List ℕ) (poller lane : ℕ) (tasks : List Task) (doing : Doing) (s : State) (importer : Importer) → AllByRecursion (IsTaskOf name_of poller lane) tasks → agree.IsUnderWay tasks doing
    → (lane ≡ poller → ⊥) → IsUnderWay s lane doing importer
no_import name_of poller lane tasks Begun s importer all far other = tt
no_import name_of poller lane tasks (Putting files) s importer all far other = tt
no_import name_of poller lane tasks Staged s importer all far other = tt
no_import name_of poller lane tasks (Importing mark records) s importer all far other = absurd (other (import_polls name_of poller lane tasks mark records all far))
