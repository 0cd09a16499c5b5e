-- What a lane's turn says of its task, and how the task goes on.
use Rattle.std.proofs.Common.{◌≡◌, ℕ, Bool, true, false, List, [], ◌∷◌, Option, Some, None, refl, sym, ap, ◌∙◌}
use Rattle.std.specs.List.{slice_get}
use Rattle.std.specs.Option.{option_map}
use Rattle.ix_record.specs.declared.body.Body.{Body}
use Rattle.ix_machine.specs.declared.event.Outcome.{Outcome}
use Rattle.ix_machine.specs.declared.event.Outcome.TheVariants.{Done, Written, Shared, Clash, Synced, Unsynced, NoUnit, At, Removed, Nothing, Fault, Lost, Damaged}
use Rattle.ix_jobs.specs.Made.{Made}
use Rattle.ix_lanes.specs.declared.doing.Doing.{Doing}
use Rattle.ix_lanes.specs.declared.doing.Doing.TheVariants.{Begun, Putting, Staged, Importing}
use Rattle.ix_lanes.specs.declared.doing.Kind.TheVariants as kind
use Rattle.ix_lanes.specs.Calls.{Turn, next_turn, build_turn, poll_turn, put_or_stage, task_turn}
use Rattle.ix_lanes.specs.Calls as turn
use Rattle.ix_lanes.specs.Progress.{Progress, over, poll_told, scanned, told, told_by}
use Rattle.ix_lanes.specs.Tasks.{Task, kind_of}
use Rattle.ix_lanes.specs.Tasks as task
use Rattle.ix_turns.specs.Looks.{look_failed}

-- a number for each turn of a poll and for a refresh
abbrev part : Turn → ℕ
part (turn.Lease names) = 0
part (turn.Put body) = 0
part (turn.Stage unit) = 0
part turn.Publish = 0
part (turn.Remove output) = 0
part turn.Scan = 1
part turn.Import = 2
part turn.Adopt = 3
part turn.Release = 0
part turn.Collect = 0
part (turn.Ask query) = 0

abbrev part_of : Option Turn → ℕ
part_of None = 0
part_of (Some t) = part t

put_part : (job : Made) (o : Option Body) → part (put_or_stage job o) ≡ 0
put_part job None = refl
put_part job (Some body) = refl

build_part : (job : Made) (doing : Doing) → part (build_turn job doing) ≡ 0
build_part job Begun = refl
build_part job (Putting files) = put_part job (slice_get job.bodies files)
build_part job Staged = refl
build_part job (Importing mark records) = refl

zero_one : ◌≡◌ {A = ℕ} 0 1 → ⊥
zero_one e = cc

zero_two : ◌≡◌ {A = ℕ} 0 2 → ⊥
zero_two e = cc

zero_three : ◌≡◌ {A = ℕ} 0 3 → ⊥
zero_three e = cc

one_two : ◌≡◌ {A = ℕ} 1 2 → ⊥
one_two e = cc

one_three : ◌≡◌ {A = ℕ} 1 3 → ⊥
one_three e = cc

two_one : ◌≡◌ {A = ℕ} 2 1 → ⊥
two_one e = cc

two_three : ◌≡◌ {A = ℕ} 2 3 → ⊥
two_three e = cc

three_one : ◌≡◌ {A = ℕ} 3 1 → ⊥
three_one e = cc

three_two : ◌≡◌ {A = ℕ} 3 2 → ⊥
three_two e = cc

-- ---- scans

abbrev pub NoImport : Doing → Type 0
NoImport Begun = Unit {0}
NoImport (Putting files) = Unit {0}
NoImport Staged = Unit {0}
NoImport (Importing mark records) = ⊥

scan_doing : (doing : Doing) → part (poll_turn doing) ≡ 1 → NoImport doing
scan_doing Begun e = tt
scan_doing (Putting files) e = tt
scan_doing Staged e = tt
scan_doing (Importing mark records) e = two_one e

scan_task : (doing : Doing) (tasks : List Task) → part_of (option_map (task_turn doing) (slice_get tasks 0)) ≡ 1 → (kind_of tasks ≡ kind.Poll) × NoImport doing
scan_task doing [] e = absurd (zero_one e)
scan_task doing (task.Build job ∷ ts) e = absurd (zero_one (sym (build_part job doing) ∙ e))
scan_task doing (task.Remove output ∷ ts) e = absurd (zero_one e)
scan_task doing (task.Poll ∷ ts) e = (refl, scan_doing doing e)
scan_task doing (task.Refresh ∷ ts) e = absurd (three_one e)
scan_task doing (task.Ask query ∷ ts) e = absurd (zero_one e)
scan_task doing (task.Release ∷ ts) e = absurd (zero_one e)
scan_task doing (task.Collect ∷ ts) e = absurd (zero_one e)

pub scans : (p : Progress) → next_turn p ≡ Some turn.Scan → (kind_of p.tasks ≡ kind.Poll) × NoImport p.doing
scans p e = scan_task p.doing p.tasks (ap part_of e)

-- ---- imports

pub record IsImport (doing : Doing) : Type 0 where
  pub mark : ℕ
  pub records : ℕ
  pub is : doing ≡ Importing mark records

import_doing : (doing : Doing) → part (poll_turn doing) ≡ 2 → IsImport doing
import_doing Begun e = absurd (one_two e)
import_doing (Putting files) e = absurd (one_two e)
import_doing Staged e = absurd (one_two e)
import_doing (Importing mark records) e = record { mark = mark; records = records; is = refl }

import_task : (doing : Doing) (tasks : List Task) → part_of (option_map (task_turn doing) (slice_get tasks 0)) ≡ 2 → (kind_of tasks ≡ kind.Poll) × IsImport doing
import_task doing [] e = absurd (zero_two e)
import_task doing (task.Build job ∷ ts) e = absurd (zero_two (sym (build_part job doing) ∙ e))
import_task doing (task.Remove output ∷ ts) e = absurd (zero_two e)
import_task doing (task.Poll ∷ ts) e = (refl, import_doing doing e)
import_task doing (task.Refresh ∷ ts) e = absurd (three_two e)
import_task doing (task.Ask query ∷ ts) e = absurd (zero_two e)
import_task doing (task.Release ∷ ts) e = absurd (zero_two e)
import_task doing (task.Collect ∷ ts) e = absurd (zero_two e)

pub imports : (p : Progress) → next_turn p ≡ Some turn.Import → (kind_of p.tasks ≡ kind.Poll) × IsImport p.doing
imports p e = import_task p.doing p.tasks (ap part_of e)

-- ---- refreshes

poll_doing : (doing : Doing) → part (poll_turn doing) ≡ 3 → ⊥
poll_doing Begun e = one_three e
poll_doing (Putting files) e = one_three e
poll_doing Staged e = one_three e
poll_doing (Importing mark records) e = two_three e

adopt_task : (doing : Doing) (tasks : List Task) → part_of (option_map (task_turn doing) (slice_get tasks 0)) ≡ 3 → kind_of tasks ≡ kind.Refresh
adopt_task doing [] e = absurd (zero_three e)
adopt_task doing (task.Build job ∷ ts) e = absurd (zero_three (sym (build_part job doing) ∙ e))
adopt_task doing (task.Remove output ∷ ts) e = absurd (zero_three e)
adopt_task doing (task.Poll ∷ ts) e = absurd (poll_doing doing e)
adopt_task doing (task.Refresh ∷ ts) e = refl
adopt_task doing (task.Ask query ∷ ts) e = absurd (zero_three e)
adopt_task doing (task.Release ∷ ts) e = absurd (zero_three e)
adopt_task doing (task.Collect ∷ ts) e = absurd (zero_three e)

pub adopts : (p : Progress) → next_turn p ≡ Some turn.Adopt → kind_of p.tasks ≡ kind.Refresh
adopts p e = adopt_task p.doing p.tasks (ap part_of e)

-- ---- how a poll goes on

pub poll_is_told : (p : Progress) (outcome : Outcome) → kind_of p.tasks ≡ kind.Poll → told outcome p ≡ poll_told outcome p
poll_is_told p outcome e = ap (λ k. told_by k outcome p) e

no_way : false ≡ true → ⊥
no_way e = cc

-- a poll whose call failed is over
pub failed_over : (p : Progress) (outcome : Outcome) → look_failed outcome ≡ true → poll_told outcome p ≡ over p
failed_over p Done e = absurd (no_way e)
failed_over p Written e = absurd (no_way e)
failed_over p Shared e = absurd (no_way e)
failed_over p Clash e = absurd (no_way e)
failed_over p Synced e = absurd (no_way e)
failed_over p Unsynced e = absurd (no_way e)
failed_over p NoUnit e = absurd (no_way e)
failed_over p (At mark) e = absurd (no_way e)
failed_over p (Removed name) e = absurd (no_way e)
failed_over p Nothing e = absurd (no_way e)
failed_over p Fault e = refl
failed_over p (Lost name) e = refl
failed_over p (Damaged name) e = refl

-- behind a scan the lane holds what it held
pub held_still : (doing : Doing) (mark : ℕ) (p : Progress) → NoImport doing → (scanned mark doing p).held ≡ p.held
held_still Begun mark p none = refl
held_still (Putting files) mark p none = refl
held_still Staged mark p none = refl
held_still (Importing opened records) mark p none = absurd none
