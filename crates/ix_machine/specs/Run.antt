-- Runs of the machine: from what opening finds, call after call.
use Rattle.std.specs.Prelude.{◌≡◌, ℕ, true, false, List, [], ◌∷◌, map, replicate, Some, None, IsSome}
use Rattle.std.specs.List.{AllByRecursion}
use Rattle.std.specs.List.Sorted.{IsStrictlySortedBy}
use Rattle.std.specs.Map.{keys_of}
use Rattle.ix_types.specs.Row.{text_cmp}
use Rattle.ix_record.specs.Whole.{IsWhole}
use Rattle.ix_unit.specs.Value.{IsValidUnit}
use Rattle.ix_model.specs.declared.publication.Publication.TheVariants as model
use Rattle.ix_model.specs.Units.{Units}
use Rattle.ix_machine.specs.declared.event.Outcome.{Outcome}
use Rattle.ix_machine.specs.declared.event.Purpose.{Purpose}
use Rattle.ix_machine.specs.declared.event.Purpose.TheVariants.{Import, Ask}
use Rattle.ix_machine.specs.declared.opened.Refused.{Refused}
use Rattle.ix_machine.specs.Given.{Given, Lease, Put, Stage, Publish, Remove, Scan, Load, Install, Adopt, Release, Collect}
use Rattle.ix_machine.specs.Needs.{has_name, units_need, seen_at}
use Rattle.ix_machine.specs.Sound.{RecordsStand}
use Rattle.ix_machine.specs.State as state
use Rattle.ix_machine.specs.State.{State, Files, lease_of, held_by}
use Rattle.ix_machine.specs.Step.{Stepped, staged_by, step}

-- ---- where a run begins

-- what opening finds: the sound units by name, the refused ones, and the record files
pub record Opening : Type 0 where
  pub units : Units
  pub refused : List Refused
  pub records : Files

-- the state after opening: one publication for each sound unit, nothing leased, imported or held, and mark 0
abbrev pub begun : Opening → ℕ → State
begun opening lanes = record {
  publications = map (λ entry. model.Put entry.0 entry.1) opening.units;
  pending = None;
  records = opening.records;
  leases = replicate lanes None;
  import = None;
  current = 0;
  held = replicate lanes None;
}

-- the record files rise by name, and the records of the sound units stand among them
pub record IsSoundOpening (name_of : List ℕ → List ℕ) (opening : Opening) : Type 0 where
  pub rising : IsStrictlySortedBy text_cmp (keys_of opening.records)
  pub stand : RecordsStand name_of opening.records opening.units

-- ---- when a call may be made

-- the lane has a lease and has staged nothing, and of the lease this holds
abbrev pub Leases : State → ℕ → (state.Lease → Type 0) → Type 0
Leases s lane P = (lease : state.Lease) × (lease_of s lane ≡ Some lease) × (lease.staged ≡ None) × P lease

-- the record is needed by what the open import sees, and not at the current version
pub record IsFresh (s : State) (name : List ℕ) : Type 0 where
  pub open_import : state.Import
  pub is_open : s.import ≡ Some open_import
  pub needed : units_need name (seen_at s open_import.mark) ≡ true
  pub new : units_need name (seen_at s s.current) ≡ false

-- the record is needed at the version that the lane holds
pub record IsHeldNeed (s : State) (lane : ℕ) (name : List ℕ) : Type 0 where
  pub mark : ℕ
  pub held : held_by s lane ≡ Some mark
  pub needed : units_need name (seen_at s mark) ≡ true

abbrev pub MayLoad : State → ℕ → List ℕ → Purpose → Type 0
MayLoad s lane name Import = IsFresh s name
MayLoad s lane name Ask = IsHeldNeed s lane name

-- the lane opened the import that is open
pub record OpenedImport (s : State) (lane : ℕ) : Type 0 where
  pub open_import : state.Import
  pub is_open : s.import ≡ Some open_import
  pub own : open_import.lane ≡ lane

-- what a call wants of the state
abbrev pub MayCall : (List ℕ → List ℕ) → State → ℕ → Given → Type 0
MayCall name_of s lane (Lease names) = lease_of s lane ≡ None
MayCall name_of s lane (Put body) = Leases s lane (λ lease. (has_name body.name lease.names ≡ true) × IsWhole name_of body)
MayCall name_of s lane (Stage unit) = Leases s lane (λ lease. IsValidUnit unit × AllByRecursion (λ dep. has_name dep.name lease.put ≡ true) unit.records)
MayCall name_of s lane Publish = IsSome (staged_by s lane)
MayCall name_of s lane (Remove output) = Unit {0}
MayCall name_of s lane Scan = Unit {0}
MayCall name_of s lane (Load name purpose) = MayLoad s lane name purpose
MayCall name_of s lane Install = OpenedImport s lane
MayCall name_of s lane Adopt = Unit {0}
MayCall name_of s lane Release = Unit {0}
MayCall name_of s lane Collect = Unit {0}

-- ---- runs

-- a call of a lane, and its flag
pub record Turn : Type 0 where
  pub lane : ℕ
  pub given : Given
  pub flag : Outcome

-- the machine takes the call, and ends it so
pub record Takes (name_of : List ℕ → List ℕ) (s : State) (turn : Turn) (stepped : Stepped) : Type 0 where
  pub may : MayCall name_of s turn.lane turn.given
  pub taken : step name_of s turn.lane turn.given turn.flag ≡ Some stepped

-- the machine takes one call after the other, and comes to this state
abbrev pub Leads : (List ℕ → List ℕ) → State → List Turn → State → Type 0
Leads name_of s [] end = s ≡ end
Leads name_of s (turn ∷ turns) end = (stepped : Stepped) × Takes name_of s turn stepped × Leads name_of stepped.state turns end
