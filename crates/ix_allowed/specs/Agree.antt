-- What the machine's state keeps of a lane, as its progress says it.
use Rattle.std.specs.Prelude.{◌≡◌, ℕ, true, List, [], ◌∷◌, length, map, take, slice_get, Option, Some, None, IfSome, option_and_then}
use Rattle.std.specs.List.{AllByRecursion}
use Rattle.ix_record.specs.declared.body.Body.{Body}
use Rattle.ix_record.specs.Whole.{IsWhole}
use Rattle.ix_unit.specs.Value.{IsValidUnit}
use Rattle.ix_machine.specs.Needs.{has_name}
use Rattle.ix_machine.specs.State as state
use Rattle.ix_machine.specs.State.{State, lease_of, held_by}
use Rattle.ix_jobs.specs.Made.{Made}
use Rattle.ix_jobs.specs.Laws.{IsWrittenIn}
use Rattle.ix_lanes.specs.declared.doing.Doing.{Doing}
use Rattle.ix_lanes.specs.declared.doing.Doing.TheVariants.{Begun, Putting, Staged, Importing}
use Rattle.ix_lanes.specs.Tasks.{Task, Build, Remove, Poll, Refresh, Ask, Release, Collect}
use Rattle.ix_lanes.specs.Progress.{Progress}
use Rattle.ix_replays.specs.Laws.{RunFits, LanesHold}
use Rattle.ix_replays.specs.Run.{Run, progress_of}

-- ---- leases

-- the names of a job's first files
abbrev pub names_put : Made → ℕ → List (List ℕ)
names_put job files = map (λ (body : Body). body.name) (take files job.bodies)

-- a build's lease: none before it began; then the job's names with those of the first files put; in the end all of them put and the unit staged
abbrev pub build_lease : Made → Doing → Option state.Lease
build_lease job Begun = None
build_lease job (Putting files) = Some (record { names = job.names; put = names_put job files; staged = None })
build_lease job Staged = Some (record { names = job.names; put = map (λ (body : Body). body.name) job.bodies; staged = Some job.unit })
build_lease job (Importing mark records) = None

-- the lease of a lane with these tasks left, of which the first is so far: no task but a build has one
abbrev pub lease_at : List Task → Doing → Option state.Lease
lease_at [] doing = None
lease_at (Build job ∷ tasks) doing = build_lease job doing
lease_at (Remove output ∷ tasks) doing = None
lease_at (Poll ∷ tasks) doing = None
lease_at (Refresh ∷ tasks) doing = None
lease_at (Ask query ∷ tasks) doing = None
lease_at (Release ∷ tasks) doing = None
lease_at (Collect ∷ tasks) doing = None

abbrev pub lease_in : Progress → Option state.Lease
lease_in p = lease_at p.tasks p.doing

-- ---- the open import

-- a poll's import: open behind its scan, at the mark at which it scanned
abbrev pub poll_import : ℕ → Doing → Option state.Import
poll_import lane Begun = None
poll_import lane (Putting files) = None
poll_import lane Staged = None
poll_import lane (Importing mark records) = Some (record { lane = lane; mark = mark })

-- the import that a lane has open: no task but a poll has one
abbrev pub import_at : ℕ → List Task → Doing → Option state.Import
import_at lane [] doing = None
import_at lane (Build job ∷ tasks) doing = None
import_at lane (Remove output ∷ tasks) doing = None
import_at lane (Poll ∷ tasks) doing = poll_import lane doing
import_at lane (Refresh ∷ tasks) doing = None
import_at lane (Ask query ∷ tasks) doing = None
import_at lane (Release ∷ tasks) doing = None
import_at lane (Collect ∷ tasks) doing = None

abbrev pub import_in : ℕ → Progress → Option state.Import
import_in lane p = import_at lane p.tasks p.doing

-- ---- how far a task may be

abbrev pub IsBuilding : Doing → Type 0
IsBuilding Begun = Unit {0}
IsBuilding (Putting files) = Unit {0}
IsBuilding Staged = Unit {0}
IsBuilding (Importing mark records) = ⊥

abbrev pub IsPolling : Doing → Type 0
IsPolling Begun = Unit {0}
IsPolling (Putting files) = ⊥
IsPolling Staged = ⊥
IsPolling (Importing mark records) = Unit {0}

-- a build puts files and has a unit staged, a poll imports, and all others make one sort of call
abbrev pub IsUnderWay : List Task → Doing → Type 0
IsUnderWay [] doing = doing ≡ Begun
IsUnderWay (Build job ∷ tasks) doing = IsBuilding doing
IsUnderWay (Remove output ∷ tasks) doing = doing ≡ Begun
IsUnderWay (Poll ∷ tasks) doing = IsPolling doing
IsUnderWay (Refresh ∷ tasks) doing = doing ≡ Begun
IsUnderWay (Ask query ∷ tasks) doing = doing ≡ Begun
IsUnderWay (Release ∷ tasks) doing = doing ≡ Begun
IsUnderWay (Collect ∷ tasks) doing = doing ≡ Begun

-- ---- a lane

-- the state keeps of the lane what its progress says: its lease, the version that it holds, and where it imports, the open import
pub record LaneAgrees (s : State) (lane : ℕ) (p : Progress) : Type 0 where
  pub doing : IsUnderWay p.tasks p.doing
  pub lease : lease_of s lane ≡ lease_in p
  pub held : held_by s lane ≡ p.held
  pub import : IfSome (import_in lane p) (λ opened. s.import ≡ Some opened)

-- ---- what lanes have to do

-- a job's unit is valid, its files are whole and have names among the job's, and each record of the unit is one of them
pub record IsJob (name_of : List ℕ → List ℕ) (job : Made) : Type 0 where
  pub valid : IsValidUnit job.unit
  pub whole : AllByRecursion (IsWhole name_of) job.bodies
  pub named : AllByRecursion (λ (body : Body). has_name body.name job.names ≡ true) job.bodies
  pub written : AllByRecursion (IsWrittenIn job.bodies) job.unit.records

-- a task of the lane: a build's job is one, and only one lane polls
abbrev pub IsTaskOf : (List ℕ → List ℕ) → ℕ → ℕ → Task → Type 0
IsTaskOf name_of poller lane (Build job) = IsJob name_of job
IsTaskOf name_of poller lane (Remove output) = Unit {0}
IsTaskOf name_of poller lane Poll = lane ≡ poller
IsTaskOf name_of poller lane Refresh = Unit {0}
IsTaskOf name_of poller lane (Ask query) = Unit {0}
IsTaskOf name_of poller lane Release = Unit {0}
IsTaskOf name_of poller lane Collect = Unit {0}

abbrev pub AreTasksOf : (List ℕ → List ℕ) → ℕ → List (List Task) → Type 0
AreTasksOf name_of poller lanes = (lane : ℕ) (tasks : List Task) → slice_get lanes lane ≡ Some tasks → AllByRecursion (IsTaskOf name_of poller lane) tasks

-- ---- a run

-- the import that the polling lane has open
abbrev pub import_of : ℕ → List (List Task) → Run → Option state.Import
import_of poller lanes run = option_and_then (λ tasks. import_in poller (progress_of run poller tasks)) (slice_get lanes poller)

-- in the run's state, each lane has the lease that its progress says, and holds what it says; and the open import, if any, is that of the lane that
-- polls, at the mark at which it scanned
pub record LanesAgree (poller : ℕ) (lanes : List (List Task)) (run : Run) : Type 0 where
  pub fits : RunFits run
  pub holds : LanesHold lanes run
  pub room : length run.state.leases ≡ length lanes
  pub leases : (lane : ℕ) (tasks : List Task) → slice_get lanes lane ≡ Some tasks → lease_of run.state lane ≡ lease_in (progress_of run lane tasks)
  pub import : run.state.import ≡ import_of poller lanes run
