-- What a lane's turn says of its tasks.
use Rattle.std.proofs.Common.{◌≡◌, ℕ, List, [], ◌∷◌, Option, Some, None, option_map, option_and_then, slice_get, refl, sym, ap, ◌∙◌, subst}
use Rattle.ix_record.specs.declared.body.Body.{Body}
use Rattle.ix_jobs.specs.Made.{Made}
use Rattle.ix_model.specs.Units.{Units}
use Rattle.ix_model_run.specs.declared.progress.Import.{Import}
use Rattle.ix_model_run.specs.Importing.{IsImport}
use Rattle.ix_lanes.specs.Calls.{Turn, call_for, fresh_in, import_call, load_or_install, put_or_stage, build_turn, poll_turn, task_turn, next_turn}
use Rattle.ix_lanes.specs.Calls as turn
use Rattle.ix_lanes.specs.declared.doing.Doing.{Doing}
use Rattle.ix_lanes.specs.declared.doing.Doing.TheVariants.{Begun, Putting, Staged, Importing}
use Rattle.ix_lanes.specs.declared.doing.Kind.TheVariants as kind
use Rattle.ix_lanes.specs.Progress.{Progress}
use Rattle.ix_lanes.specs.Tasks.{Task, Build, Remove, Poll, Refresh, Ask, Release, Collect, kind_of}
use Rattle.ix_model_run.specs.Settling.{query_of, asked, asked_by}

-- ---- asks

puts : (job : Made) (body : Option Body) → query_of (put_or_stage job body) ≡ None
puts job None = refl
puts job (Some body) = refl

builds : (job : Made) (doing : Doing) → query_of (build_turn job doing) ≡ None
builds job Begun = refl
builds job (Putting files) = puts job (slice_get job.bodies files)
builds job Staged = refl
builds job (Importing mark records) = refl

polls : (doing : Doing) → query_of (poll_turn doing) ≡ None
polls Begun = refl
polls (Putting files) = refl
polls Staged = refl
polls (Importing mark records) = refl

first_asks : (doing : Doing) (tasks : List Task) → option_and_then query_of (option_map (task_turn doing) (slice_get tasks 0)) ≡ asked_by tasks
first_asks doing [] = refl
first_asks doing (Build job ∷ tasks) = builds job doing
first_asks doing (Remove output ∷ tasks) = refl
first_asks doing (Poll ∷ tasks) = polls doing
first_asks doing (Refresh ∷ tasks) = refl
first_asks doing (Ask query ∷ tasks) = refl
first_asks doing (Release ∷ tasks) = refl
first_asks doing (Collect ∷ tasks) = refl

-- the turn of a lane is an ask exactly where its first task is one
pub turn_asks : (p : Progress) → option_and_then query_of (next_turn p) ≡ asked p
turn_asks p = first_asks p.doing p.tasks

-- ---- imports

abbrev IsImporting : Turn → Doing → List Task → Type 0
IsImporting (turn.Lease names) doing tasks = Unit {0}
IsImporting (turn.Put body) doing tasks = Unit {0}
IsImporting (turn.Stage unit) doing tasks = Unit {0}
IsImporting turn.Publish doing tasks = Unit {0}
IsImporting (turn.Remove output) doing tasks = Unit {0}
IsImporting turn.Scan doing tasks = Unit {0}
IsImporting turn.Import doing tasks = (mark records : ℕ) × (doing ≡ Importing mark records) × (kind_of tasks ≡ kind.Poll)
IsImporting turn.Adopt doing tasks = Unit {0}
IsImporting turn.Release doing tasks = Unit {0}
IsImporting turn.Collect doing tasks = Unit {0}
IsImporting (turn.Ask query) doing tasks = Unit {0}

puts_so : (job : Made) (body : Option Body) (doing : Doing) (tasks : List Task) → IsImporting (put_or_stage job body) doing tasks
puts_so job None doing tasks = tt
puts_so job (Some body) doing tasks = tt

builds_so : (job : Made) (doing : Doing) (tasks : List Task) → IsImporting (build_turn job doing) doing tasks
builds_so job Begun tasks = tt
builds_so job (Putting files) tasks = puts_so job (slice_get job.bodies files) (Putting files) tasks
builds_so job Staged tasks = tt
builds_so job (Importing mark records) tasks = tt

polls_so : (doing : Doing) (tasks : List Task) → IsImporting (poll_turn doing) doing (Poll ∷ tasks)
polls_so Begun tasks = tt
polls_so (Putting files) tasks = tt
polls_so Staged tasks = tt
polls_so (Importing mark records) tasks = (mark, records, refl, refl)

tasks_so : (doing : Doing) (task : Task) (tasks : List Task) → IsImporting (task_turn doing task) doing (task ∷ tasks)
tasks_so doing (Build job) tasks = builds_so job doing (Build job ∷ tasks)
tasks_so doing (Remove output) tasks = tt
tasks_so doing Poll tasks = polls_so doing tasks
tasks_so doing Refresh tasks = tt
tasks_so doing (Ask query) tasks = tt
tasks_so doing Release tasks = tt
tasks_so doing Collect tasks = tt

imports_over : (doing : Doing) (tasks : List Task) → option_map (task_turn doing) (slice_get tasks 0) ≡ Some turn.Import → IsImporting turn.Import doing tasks
imports_over doing [] e = absurd (cc)
imports_over doing (task ∷ tasks) e = let same : task_turn doing task ≡ turn.Import = cc in subst (λ (t : Turn). IsImporting t doing (task ∷ tasks)) same (tasks_so doing task tasks)

-- the import's next call, by what is told of the import
pub import_next : (seen : ℕ → Units) (current : ℕ) (p : Progress) (import : Import) → IsImport p import → next_turn p ≡ Some turn.Import
    → call_for seen current p turn.Import ≡ Some (load_or_install (slice_get (fresh_in (seen current) (seen import.mark)) import.records))
import_next seen current p import is e =
    let at = imports_over p.doing p.tasks e in
    let same = is at.0 at.1 at.3 at.2 in
    ap (λ (doing : Doing). import_call seen current doing) at.2
    ∙ (λ i. Some (load_or_install (slice_get (fresh_in (seen current) (seen (sym same.0 i))) (sym same.1 i))))
