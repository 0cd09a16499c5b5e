-- What a scan of the units gives.
use Rattle.std.specs.Prelude.{◌≡◌, ◌≢◌, ℕ, List, map, filter, Bool, true, false, not, Result, Ok, Err, Some, None, IsSome, nat_eq}
use Rattle.std.specs.Coded.{Coded, coded_list, coded_ℕ}
use Rattle.std.specs.FinMap.{FinMap, entries, get, keys, contains_key, from_sorted, code}
use Rattle.std.specs.Option.{option_eq}
use Rattle.ix_cabinet.specs.declared.fault.ScanError.{ScanError}
use Rattle.ix_cabinet.specs.declared.fault.ScanError.TheVariants.{Fault, Lost, Damaged, Memory}
use Rattle.ix_dir.specs.declared.area.Area.TheVariants.{Units}
use Rattle.ix_dir.specs.declared.dir.Listed.{Listed}
use Rattle.ix_dir.specs.declared.moves.Move.{Move}
use Rattle.ix_dir.specs.Files.{Files, bytes_at, listed_at}
use Rattle.ix_types.specs.Row.{text_cmp}
use Rattle.ix_dir.specs.Moves.{area_after}
use Rattle.ix_unit.specs.declared.batch.UnitPut.{UnitPut}
use Rattle.ix_unit.specs.declared.value.UnitValue.{UnitValue}
use Rattle.ix_unit.specs.Spelling.{UnitSpelling}
use Rattle.ix_unit.specs.Value.{IsValidUnit}

-- stamps by name
abbrev pub StampMap : Type 0
StampMap = FinMap text_cmp ℕ

abbrev pub stamp_code : Coded StampMap
stamp_code = code (coded_list coded_ℕ) coded_ℕ

-- the stamp of each file
abbrev pub stamps_in : Files → StampMap
stamps_in files = from_sorted (map (λ e. (e.0, e.1.stamp)) (entries files))

-- the known stamp of the name is the one listed
abbrev pub is_known : StampMap → Listed → Bool
is_known known one = option_eq nat_eq (get known one.name) (Some one.stamp)

-- those whose stamp isn't the known one
abbrev pub unknown : StampMap → List Listed → List Listed
unknown known listed = filter (λ one. not (is_known known one)) listed

-- the names whose stamp isn't the known one, in rising order
abbrev pub changed : StampMap → StampMap → List (List ℕ)
changed known now = map (λ one. one.name) (unknown known (map listed_at (entries now)))

-- the known names that have no stamp any more, in rising order
abbrev pub gone : StampMap → StampMap → List (List ℕ)
gone known now = filter (λ name. not (contains_key now name)) (keys known)

-- the name has a stamp now, which isn't the known one
pub record IsChanged (known now : StampMap) (name : List ℕ) : Type 0 where
  pub stamp : ℕ
  pub is_now : get now name ≡ Some stamp
  pub not_known : get known name ≢ Some stamp

-- the name is known, and has no stamp now
pub record IsGone (known now : StampMap) (name : List ℕ) : Type 0 where
  pub is_known : IsSome (get known name)
  pub is_gone : get now name ≡ None

-- there is a file of the listed name
abbrev pub StandsAt : Files → Listed → Type 0
StandsAt files one = IsSome (bytes_at files one.name)

-- the bytes under the unit's name spell it
pub record IsUnitAt (files : Files) (put : UnitPut) : Type 0 where
  pub bytes : List ℕ
  pub stands : bytes_at files put.name ≡ Some bytes
  pub spelled : UnitSpelling bytes put.unit.value

-- the unit is valid and has the name that its output path gives it
pub record IsNamedUnit (name_of : List ℕ → List ℕ) (put : UnitPut) : Type 0 where
  pub valid : IsValidUnit put.unit.value
  pub named : put.name ≡ name_of put.unit.value.output

-- bytes that are those of a unit of this name
pub record IsUnitFile (name_of : List ℕ → List ℕ) (name bytes : List ℕ) : Type 0 where
  pub unit : UnitValue
  pub spelled : UnitSpelling bytes unit
  pub named : name ≡ name_of unit.output

-- each file of the units area is that of a unit of its name
abbrev pub HoldsUnits : (List ℕ → List ℕ) → List Move → Type 0
HoldsUnits name_of moves = (name bytes : List ℕ) → bytes_at (area_after moves Units) name ≡ Some bytes → IsUnitFile name_of name bytes

-- a scan that failed
abbrev pub scan_failed : {X : Type 0} → Result X ScanError → Bool
scan_failed (Ok x) = false
scan_failed (Err Fault) = true
scan_failed (Err (Lost name)) = false
scan_failed (Err (Damaged name)) = false
scan_failed (Err Memory) = false
