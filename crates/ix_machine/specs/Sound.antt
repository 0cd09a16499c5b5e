-- What each state of the machine keeps.
use Rattle.std.specs.Prelude.{◌≡◌, ℕ, ◌≤◌, true, List, [], ◌∷◌, length, Some, IfSome}
use Rattle.std.specs.List.{AllByRecursion}
use Rattle.std.specs.List.Sorted.{IsStrictlySortedBy}
use Rattle.std.specs.Map.{lookup, keys_of}
use Rattle.std.specs.BTreeMap.{is_at}
use Rattle.ix_types.specs.Row.{text_cmp}
use Rattle.ix_record.specs.declared.value.RecordValue.{RecordValue}
use Rattle.ix_record.specs.Spelling.{RecordSpelling}
use Rattle.ix_unit.specs.declared.value.RecordDep.{RecordDep}
use Rattle.ix_unit.specs.Value.{IsValidUnit}
use Rattle.ix_model.specs.Units.{Units, units_at}
use Rattle.ix_machine.specs.Needs.{has_name, visible, seen_at}
use Rattle.ix_machine.specs.State.{Files, Lease, State, lease_of, held_by}

-- ---- marks

-- the current mark is at most that of the open import, each held mark at most the current one, and all at most the number of
-- publications
pub record MarksInOrder (s : State) : Type 0 where
  pub pending : IfSome s.pending (λ mark. mark ≤ length s.publications)
  pub imported : IfSome s.import (λ open_import. (s.current ≤ open_import.mark) × (open_import.mark ≤ length s.publications))
  pub current : s.current ≤ length s.publications
  pub held : (lane : ℕ) → IfSome (held_by s lane) (λ mark. mark ≤ s.current)

-- ---- records

-- under a naming, the value is spelled by bytes that have the name and stand under it
pub record StandsAs (name_of : List ℕ → List ℕ) (records : Files) (name : List ℕ) (value : RecordValue) : Type 0 where
  pub bytes : List ℕ
  pub stands : lookup (is_at (text_cmp name)) records ≡ Some bytes
  pub named : name ≡ name_of bytes
  pub spelled : RecordSpelling bytes value

-- the record of the name stands there whole
abbrev pub StandsWhole : (List ℕ → List ℕ) → Files → List ℕ → Type 0
StandsWhole name_of records name = (value : RecordValue) × StandsAs name_of records name value

-- each record dependency has its value, and that stands
abbrev pub ValuesStand : (List ℕ → List ℕ) → Files → List RecordDep → List RecordValue → Type 0
ValuesStand name_of records [] [] = Unit {0}
ValuesStand name_of records [] (value ∷ values) = ⊥
ValuesStand name_of records (dep ∷ deps) [] = ⊥
ValuesStand name_of records (dep ∷ deps) (value ∷ values) = StandsAs name_of records dep.name value × ValuesStand name_of records deps values

-- the records of all the units stand
abbrev pub RecordsStand : (List ℕ → List ℕ) → Files → Units → Type 0
RecordsStand name_of records units = AllByRecursion (λ entry. ValuesStand name_of records entry.1.unit.records entry.1.values) units

-- the records that the visible units need stand, and those of the units from before a pending change, and of those that are
-- seen by the open import, at the current version and at each version that a lane holds
pub record NeededStand (name_of : List ℕ → List ℕ) (s : State) : Type 0 where
  pub visible_ones : RecordsStand name_of s.records (visible s)
  pub pending : IfSome s.pending (λ mark. RecordsStand name_of s.records (units_at s.publications mark))
  pub imported : IfSome s.import (λ open_import. RecordsStand name_of s.records (seen_at s open_import.mark))
  pub current : RecordsStand name_of s.records (seen_at s s.current)
  pub held : (lane : ℕ) → IfSome (held_by s lane) (λ mark. RecordsStand name_of s.records (seen_at s mark))

-- ---- leases

-- each record that was put is leased and stands whole, and the staged unit is valid and has only such records
pub record IsLeaseSound (name_of : List ℕ → List ℕ) (records : Files) (lease : Lease) : Type 0 where
  pub leased : AllByRecursion (λ name. has_name name lease.names ≡ true) lease.put
  pub whole : AllByRecursion (StandsWhole name_of records) lease.put
  pub staged : IfSome lease.staged (λ unit. IsValidUnit unit × AllByRecursion (λ dep. has_name dep.name lease.put ≡ true) unit.records)

-- ---- all of it

pub record IsSound (name_of : List ℕ → List ℕ) (s : State) : Type 0 where
  pub marks : MarksInOrder s
  pub needed : NeededStand name_of s
  pub leases : (lane : ℕ) → IfSome (lease_of s lane) (IsLeaseSound name_of s.records)
  pub rising : IsStrictlySortedBy text_cmp (keys_of s.records)
