-- Of which kind a lane's task is, by its next turn, and what is so of each kind.
use Rattle.std.proofs.Common.{◌≡◌, false, List, [], ◌∷◌, Option, Some, None, IfSome, option_map, slice_get, refl, ap, ◌∙◌}
use Rattle.ix_record.specs.declared.body.Body.{Body}
use Rattle.ix_machine.specs.declared.event.Outcome.{Outcome}
use Rattle.ix_machine.specs.declared.event.Outcome.TheVariants.{Done, Written, Shared, Clash, Synced, Unsynced, NoUnit, At, Removed, Nothing, Fault, Lost, Damaged}
use Rattle.ix_jobs.specs.Made.{Made}
use Rattle.ix_lanes.specs.declared.doing.Doing.{Doing}
use Rattle.ix_lanes.specs.declared.doing.Doing.TheVariants.{Begun, Putting, Staged, Importing}
use Rattle.ix_lanes.specs.declared.doing.Kind.{Kind}
use Rattle.ix_lanes.specs.declared.doing.Kind.TheVariants as kind
use Rattle.ix_lanes.specs.Calls as turn
use Rattle.ix_lanes.specs.Calls.{Turn, build_turn, next_turn, poll_turn, put_or_stage, task_turn}
use Rattle.ix_lanes.specs.Progress.{Progress, build_goes_on, build_on, goes_on, put_on}
use Rattle.ix_lanes.specs.Tasks as task
use Rattle.ix_lanes.specs.Tasks.{Task, kind_of}
use Rattle.ix_calls.specs.Calling.{is_importing}

pub some_is : {X : Type 0} {a b : X} → ◌≡◌ {A = Option X} (Some a) (Some b) → a ≡ b
some_is is = cc

abbrev pub kind_for : Turn → Kind
kind_for (turn.Lease names) = kind.Build
kind_for (turn.Put body) = kind.Build
kind_for (turn.Stage unit) = kind.Build
kind_for turn.Publish = kind.Build
kind_for (turn.Remove output) = kind.Remove
kind_for turn.Scan = kind.Poll
kind_for turn.Import = kind.Poll
kind_for turn.Adopt = kind.Refresh
kind_for turn.Release = kind.Release
kind_for turn.Collect = kind.Collect
kind_for (turn.Ask query) = kind.Ask

put_kind : (job : Made) (o : Option Body) → kind.Build ≡ kind_for (put_or_stage job o)
put_kind job None = refl
put_kind job (Some body) = refl

pub build_kind : (job : Made) (doing : Doing) → kind.Build ≡ kind_for (build_turn job doing)
build_kind job Begun = refl
build_kind job (Putting files) = put_kind job (slice_get job.bodies files)
build_kind job Staged = refl
build_kind job (Importing mark records) = refl

pub poll_kind : (doing : Doing) → kind.Poll ≡ kind_for (poll_turn doing)
poll_kind Begun = refl
poll_kind (Putting files) = refl
poll_kind Staged = refl
poll_kind (Importing mark records) = refl

kind_at : (doing : Doing) (tasks : List Task) (t : Turn) → option_map (task_turn doing) (slice_get tasks 0) ≡ Some t → kind_of tasks ≡ kind_for t
kind_at doing [] t is = absurd (cc)
kind_at doing (task.Build job ∷ tasks) t is = build_kind job doing ∙ ap kind_for (some_is is)
kind_at doing (task.Remove output ∷ tasks) t is = ap kind_for (some_is is)
kind_at doing (task.Poll ∷ tasks) t is = poll_kind doing ∙ ap kind_for (some_is is)
kind_at doing (task.Refresh ∷ tasks) t is = ap kind_for (some_is is)
kind_at doing (task.Ask query ∷ tasks) t is = ap kind_for (some_is is)
kind_at doing (task.Release ∷ tasks) t is = ap kind_for (some_is is)
kind_at doing (task.Collect ∷ tasks) t is = ap kind_for (some_is is)

pub kind_is : (p : Progress) (t : Turn) → next_turn p ≡ Some t → kind_of p.tasks ≡ kind_for t
kind_is p t is = kind_at p.doing p.tasks t is

-- ---- how a build goes on

pub goes_held : (o : Option Doing) (p : Progress) → (goes_on o p).held ≡ p.held
goes_held None p = refl
goes_held (Some doing) p = refl

pub goes_beside : (o : Option Doing) (p : Progress) → IfSome o (λ doing. is_importing doing ≡ false) → is_importing (goes_on o p).doing ≡ false
goes_beside None p is = refl
goes_beside (Some doing) p is = is

on_beside : (doing : Doing) → IfSome (build_on doing) (λ d. is_importing d ≡ false)
on_beside Begun = refl
on_beside (Putting files) = refl
on_beside Staged = tt
on_beside (Importing mark records) = tt

put_beside : (doing : Doing) → IfSome (put_on doing) (λ d. is_importing d ≡ false)
put_beside Begun = tt
put_beside (Putting files) = refl
put_beside Staged = tt
put_beside (Importing mark records) = tt

pub build_beside : (how : Outcome) (doing : Doing) → IfSome (build_goes_on how doing) (λ d. is_importing d ≡ false)
build_beside Done doing = on_beside doing
build_beside Written doing = put_beside doing
build_beside Shared doing = put_beside doing
build_beside Clash doing = tt
build_beside Synced doing = tt
build_beside Unsynced doing = tt
build_beside NoUnit doing = tt
build_beside (At mark) doing = tt
build_beside (Removed name) doing = tt
build_beside Nothing doing = tt
build_beside Fault doing = tt
build_beside (Lost name) doing = tt
build_beside (Damaged name) doing = tt
