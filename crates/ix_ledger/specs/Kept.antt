-- What a ledger keeps of a state of the machine.
use Rattle.std.specs.Prelude.{ℕ, List, [], map, Option, None, slice_index_or}
use Rattle.std.specs.Map.{lookup}
use Rattle.std.specs.BTreeMap.{is_at}
use Rattle.ix_types.specs.Row.{text_cmp}
use Rattle.ix_unit.specs.declared.value.UnitValue.{UnitValue}
use Rattle.ix_model.specs.Units.{Units}
use Rattle.ix_machine.specs.State.{Import}
use Rattle.ix_guard.specs.Guarding.{Guarding}

-- units by name, without the values of their records
abbrev pub Named : Type 0
Named = List (List ℕ × UnitValue)

pub record Kept : Type 0 where
  -- the need lists, and for each lane what it leases and what it holds needs
  pub guard : Guarding
  -- the visible units, rising by name
  pub units : Named
  -- the number of publications, which is the mark of the visible units
  pub published : ℕ
  -- where the last units change is unsynced: the mark before it
  pub pending : Option ℕ
  -- the lane and the mark of the open import
  pub import : Option Import
  -- the mark of the current version
  pub current : ℕ
  -- for each lane the mark of the version that it holds
  pub held : List (Option ℕ)
  -- for each lane the unit that it has staged
  pub staged : List (Option UnitValue)

-- the unit of a name
abbrev pub unit_at : List ℕ → Named → Option UnitValue
unit_at name units = lookup (is_at (text_cmp name)) units

-- the same units, with no values
abbrev pub as_units : Named → Units
as_units units = map (λ entry. (entry.0, record { unit = entry.1; values = [] })) units

-- the unit that a lane has staged
abbrev pub staged_in : Kept → ℕ → Option UnitValue
staged_in kept lane = slice_index_or kept.staged lane None

-- the mark that a lane holds
abbrev pub held_in : Kept → ℕ → Option ℕ
held_in kept lane = slice_index_or kept.held lane None
