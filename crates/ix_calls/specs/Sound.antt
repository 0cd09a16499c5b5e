-- What the builds of a lane must be like, so that their files may be put and their units staged.
use Rattle.std.specs.Prelude.{ℕ, List}
use Rattle.std.specs.List.{AllByRecursion}
use Rattle.ix_record.specs.Whole.{IsWhole}
use Rattle.ix_unit.specs.Value.{IsValidUnit}
use Rattle.ix_jobs.specs.Made.{Made}
use Rattle.ix_lanes.specs.Calls as turn
use Rattle.ix_lanes.specs.Tasks.{Task, Build, Remove, Poll, Refresh, Ask, Release, Collect}

-- each file is whole under its name, and the unit is valid
pub record IsSoundJob (name_of : List ℕ → List ℕ) (job : Made) : Type 0 where
  pub whole : AllByRecursion (IsWhole name_of) job.bodies
  pub valid : IsValidUnit job.unit

-- a build's job is sound
abbrev pub IsSoundTask : (List ℕ → List ℕ) → Task → Type 0
IsSoundTask name_of (Build job) = IsSoundJob name_of job
IsSoundTask name_of (Remove output) = Unit {0}
IsSoundTask name_of Poll = Unit {0}
IsSoundTask name_of Refresh = Unit {0}
IsSoundTask name_of (Ask query) = Unit {0}
IsSoundTask name_of Release = Unit {0}
IsSoundTask name_of Collect = Unit {0}

abbrev pub AreSound : (List ℕ → List ℕ) → List Task → Type 0
AreSound name_of tasks = AllByRecursion (IsSoundTask name_of) tasks

-- a file that is put is whole under its name, and a unit that is staged is valid
abbrev pub IsSoundTurn : (List ℕ → List ℕ) → turn.Turn → Type 0
IsSoundTurn name_of (turn.Lease names) = Unit {0}
IsSoundTurn name_of (turn.Put body) = IsWhole name_of body
IsSoundTurn name_of (turn.Stage unit) = IsValidUnit unit
IsSoundTurn name_of turn.Publish = Unit {0}
IsSoundTurn name_of (turn.Remove output) = Unit {0}
IsSoundTurn name_of turn.Scan = Unit {0}
IsSoundTurn name_of turn.Import = Unit {0}
IsSoundTurn name_of turn.Adopt = Unit {0}
IsSoundTurn name_of turn.Release = Unit {0}
IsSoundTurn name_of turn.Collect = Unit {0}
IsSoundTurn name_of (turn.Ask query) = Unit {0}
