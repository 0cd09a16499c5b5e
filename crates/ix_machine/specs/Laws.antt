-- What the machine never does, in the words of its users.
use Rattle.std.specs.Prelude.{◌≡◌, ◌≢◌, ℕ, ◌≤◌, zero, suc, false, List, [], ◌∷◌, ◌++◌, length, Some, None, IfSome, IsSome}
use Rattle.std.specs.List.{AllByRecursion}
use Rattle.std.specs.Map.{lookup}
use Rattle.std.specs.BTreeMap.{is_at}
use Rattle.std.specs.declared.cmp.Ordering.TheVariants.{Less}
use Rattle.ix_types.specs.Row.{text_cmp}
use Rattle.ix_model.specs.declared.publication.Publication.{Publication}
use Rattle.ix_model.specs.Units.{Units}
use Rattle.ix_machine.specs.declared.event.Outcome.{Outcome}
use Rattle.ix_machine.specs.declared.event.Outcome.TheVariants.{Done, Written, Shared, Clash, Synced, Unsynced, NoUnit, At, Removed, Nothing, Fault, Lost, Damaged}
use Rattle.ix_machine.specs.declared.event.Purpose.TheVariants.{Import, Ask}
use Rattle.ix_machine.specs.Given.{Given, Lease, Put, Stage, Publish, Remove, Scan, Load, Install, Adopt, Release, Collect}
use Rattle.ix_machine.specs.Needs.{is_protected, settled}
use Rattle.ix_machine.specs.State.{Files, State, lease_of, held_by}
use Rattle.ix_machine.specs.Step.{Stepped, dropped, unopened, collected}

-- ---- loose records

-- a record file stands under the name, and nothing protects it once no change is pending
pub record IsLoose (s : State) (name : List ℕ) : Type 0 where
  pub there : IsSome (lookup (is_at (text_cmp name)) s.records)
  pub free : is_protected (settled s) name ≡ false

-- no loose name is less
pub record IsLeastLoose (s : State) (name : List ℕ) : Type 0 where
  pub loose : IsLoose s name
  pub least : (other : List ℕ) → IsLoose s other → text_cmp other name ≢ Less

-- the file of the name is gone, and each other one is as before
pub record TakesAway (name : List ℕ) (before after : Files) : Type 0 where
  pub gone : lookup (is_at (text_cmp name)) after ≡ None
  pub others : (other : List ℕ) → name ≢ other → lookup (is_at (text_cmp other)) after ≡ lookup (is_at (text_cmp other)) before

-- the least loose record goes, a pending change pends no more, and all else is as before
pub record RemovesLeast (s : State) (name : List ℕ) (after : State) : Type 0 where
  pub least : IsLeastLoose s name
  pub taken : TakesAway name s.records after.records
  pub rest : after ≡ record (settled s) { records = after.records }

-- the state after so many collects in a row that don't fail
abbrev pub after_collects : ℕ → State → State
after_collects zero s = s
after_collects (suc n) s = after_collects n (collected s).state

-- ---- refusals

-- the outcomes of a call that wasn't made
abbrev pub IsRefusal : Outcome → Type 0
IsRefusal Done = ⊥
IsRefusal Written = ⊥
IsRefusal Shared = ⊥
IsRefusal Clash = Unit {0}
IsRefusal Synced = ⊥
IsRefusal Unsynced = ⊥
IsRefusal NoUnit = Unit {0}
IsRefusal (At mark) = ⊥
IsRefusal (Removed name) = ⊥
IsRefusal Nothing = ⊥
IsRefusal Fault = Unit {0}
IsRefusal (Lost name) = Unit {0}
IsRefusal (Damaged name) = Unit {0}

-- what a refusal leaves: a put, a stage and a publish drop the lane's lease, a scan and a load for an import close the open
-- import, and all else is as before
abbrev pub after_refusal : State → ℕ → Given → State
after_refusal s lane (Lease names) = s
after_refusal s lane (Put body) = dropped s lane
after_refusal s lane (Stage unit) = dropped s lane
after_refusal s lane Publish = dropped s lane
after_refusal s lane (Remove output) = s
after_refusal s lane Scan = unopened s
after_refusal s lane (Load name Import) = unopened s
after_refusal s lane (Load name Ask) = s
after_refusal s lane Install = s
after_refusal s lane Adopt = s
after_refusal s lane Release = s
after_refusal s lane Collect = s

-- ---- flags

-- the calls that ask the directory for something
abbrev pub MayFault : Given → Type 0
MayFault (Lease names) = ⊥
MayFault (Put body) = Unit {0}
MayFault (Stage unit) = Unit {0}
MayFault Publish = Unit {0}
MayFault (Remove output) = Unit {0}
MayFault Scan = Unit {0}
MayFault (Load name purpose) = Unit {0}
MayFault Install = ⊥
MayFault Adopt = ⊥
MayFault Release = ⊥
MayFault Collect = Unit {0}

-- the calls that change the units, and then sync
abbrev pub ChangesUnits : Given → Type 0
ChangesUnits (Lease names) = ⊥
ChangesUnits (Put body) = ⊥
ChangesUnits (Stage unit) = ⊥
ChangesUnits Publish = Unit {0}
ChangesUnits (Remove output) = Unit {0}
ChangesUnits Scan = ⊥
ChangesUnits (Load name purpose) = ⊥
ChangesUnits Install = ⊥
ChangesUnits Adopt = ⊥
ChangesUnits Release = ⊥
ChangesUnits Collect = ⊥

-- the calls that may find the file of a name lost or damaged: a scan any, a load its own
abbrev pub MayMiss : Given → List ℕ → Type 0
MayMiss (Lease names) other = ⊥
MayMiss (Put body) other = ⊥
MayMiss (Stage unit) other = ⊥
MayMiss Publish other = ⊥
MayMiss (Remove output) other = ⊥
MayMiss Scan other = Unit {0}
MayMiss (Load name purpose) other = name ≡ other
MayMiss Install other = ⊥
MayMiss Adopt other = ⊥
MayMiss Release other = ⊥
MayMiss Collect other = ⊥

-- the flags that a call may have: Done, which is none, and what the directory may do to the call
abbrev pub IsFlagOf : Given → Outcome → Type 0
IsFlagOf given Done = Unit {0}
IsFlagOf given Written = ⊥
IsFlagOf given Shared = ⊥
IsFlagOf given Clash = ⊥
IsFlagOf given Synced = ⊥
IsFlagOf given Unsynced = ChangesUnits given
IsFlagOf given NoUnit = ⊥
IsFlagOf given (At mark) = ⊥
IsFlagOf given (Removed name) = ⊥
IsFlagOf given Nothing = ⊥
IsFlagOf given Fault = MayFault given
IsFlagOf given (Lost name) = MayMiss given name
IsFlagOf given (Damaged name) = MayMiss given name

-- ---- changes of the units

-- the change was made like one that is synced, and pends
pub record IsPendingChange (s : State) (synced : Stepped) (after : State) : Type 0 where
  pub outcome : synced.outcome ≡ Synced
  pub pending : after ≡ record synced.state { pending = Some (length s.publications) }
  pub settles : synced.state.pending ≡ None
  pub publication : Publication
  pub publishes : synced.state.publications ≡ s.publications ++ publication ∷ []

-- ---- lanes

-- the lane has the lease and the held mark that it had
pub record KeepsLane (before after : State) (lane : ℕ) : Type 0 where
  pub lease : lease_of after lane ≡ lease_of before lane
  pub hold : held_by after lane ≡ held_by before lane

-- neither the current mark nor what the lane holds falls
pub record NeverFalls (before after : State) (lane : ℕ) : Type 0 where
  pub current : before.current ≤ after.current
  pub held : IfSome (held_by before lane) (λ earlier. IfSome (held_by after lane) (λ later. earlier ≤ later))

-- ---- units and their output paths

-- none of the units has the output path
abbrev pub IsWithout : List ℕ → Units → Type 0
IsWithout output units = AllByRecursion (λ entry. entry.1.unit.output ≢ output) units

-- each unit stands under the name of its output path
abbrev pub AreNamed : (List ℕ → List ℕ) → Units → Type 0
AreNamed name_of units = AllByRecursion (λ entry. entry.0 ≡ name_of entry.1.unit.output) units

-- no other path has the name of this one
abbrev pub IsOnlyPath : (List ℕ → List ℕ) → List ℕ → Type 0
IsOnlyPath name_of output = (other : List ℕ) → name_of other ≡ name_of output → other ≡ output
