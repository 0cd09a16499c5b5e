-- The state of the machine.
use Rattle.std.specs.Prelude.{ℕ, List, [], ◌∷◌, ◌++◌, Option, Some, None, slice_index_or}
use Rattle.ix_unit.specs.declared.value.UnitValue.{UnitValue}
use Rattle.ix_model.specs.declared.publication.Publication.{Publication}

-- files by name: pairs of a name and the bytes, rising by name
abbrev pub Files : Type 0
Files = List (List ℕ × List ℕ)

-- what a lane has leased: names of records, those already put, and the unit that is made ready
pub record Lease : Type 0 where
  pub names : List (List ℕ)
  pub put : List (List ℕ)
  pub staged : Option UnitValue

-- with one more record put
abbrev pub with_put : List ℕ → Lease → Lease
with_put name lease = record lease { put = lease.put ++ name ∷ [] }

-- with the unit made ready
abbrev pub with_staged : UnitValue → Lease → Lease
with_staged unit lease = record lease { staged = Some unit }

-- an import that a lane has opened, of the units at a mark
pub record Import : Type 0 where
  pub lane : ℕ
  pub mark : ℕ

pub record State : Type 0 where
  -- all publications, the first of them first. A mark is a number of them
  pub publications : List Publication
  -- where the last units change is unsynced: the mark before it
  pub pending : Option ℕ
  -- the record files
  pub records : Files
  -- for each lane its lease
  pub leases : List (Option Lease)
  -- the open import
  pub import : Option Import
  -- the mark of the current version
  pub current : ℕ
  -- for each lane the mark of the version that it holds
  pub held : List (Option ℕ)

-- the lease of a lane
abbrev pub lease_of : State → ℕ → Option Lease
lease_of s lane = slice_index_or s.leases lane None

-- the mark that a lane holds
abbrev pub held_by : State → ℕ → Option ℕ
held_by s lane = slice_index_or s.held lane None
