-- The one spelling of each unit: its fields, one after the other, and the digest of all these bytes.
use Rattle.std.specs.Prelude.{◌≡◌, ℕ, List, ◌++◌, length, codes, Bool, if◌then◌else◌}
use Rattle.std.specs.List.{flat_map}
use Rattle.ix_wire.specs.Spelling.{u32_bytes, text_bytes}
use Rattle.sha2.specs.Sha256.{sha256}
use Rattle.ix_unit.specs.declared.value.RecordDep.{RecordDep}
use Rattle.ix_unit.specs.declared.value.FileDep.{FileDep}
use Rattle.ix_unit.specs.declared.value.Include.{Include}
use Rattle.ix_unit.specs.declared.value.UnitValue.{UnitValue}
use Rattle.ix_unit.specs.Value.{dependency_count, IsValidUnit}

-- the bytes that a unit file begins with
abbrev pub magic_bytes : List ℕ
magic_bytes = codes "IXU1"

abbrev pub flag_number : Bool → ℕ
flag_number flag = if flag then 1 else 0

unfoldable pub flag_bytes : Bool → List ℕ
flag_bytes flag = u32_bytes (flag_number flag)

-- the output path of a unit
unfoldable pub unit_dep_bytes : List ℕ → List ℕ
unit_dep_bytes output = u32_bytes 1 ++ text_bytes output

unfoldable pub record_dep_bytes : RecordDep → List ℕ
record_dep_bytes d = u32_bytes 2 ++ (text_bytes d.path ++ flag_bytes d.system ++ text_bytes d.name)

unfoldable pub file_dep_bytes : FileDep → List ℕ
file_dep_bytes d = u32_bytes 3 ++ (text_bytes d.path ++ flag_bytes d.system)

unfoldable pub include_bytes : Include → List ℕ
include_bytes i = text_bytes i.from ++ u32_bytes i.line ++ text_bytes i.to

-- all but the digest
unfoldable pub unit_bytes : UnitValue → List ℕ
unit_bytes v =
    magic_bytes
    ++ text_bytes v.output ++ text_bytes v.main_file ++ text_bytes v.module_name ++ flag_bytes v.system
    ++ u32_bytes (dependency_count v)
    ++ flat_map unit_dep_bytes v.units ++ flat_map record_dep_bytes v.records ++ flat_map file_dep_bytes v.files
    ++ u32_bytes (length v.includes) ++ flat_map include_bytes v.includes

-- the bytes are the fields of the value and their digest, and the value is valid
pub record UnitSpelling (bytes : List ℕ) (v : UnitValue) : Type 0 where
  pub valid : IsValidUnit v
  pub fields : bytes ≡ unit_bytes v ++ sha256 (unit_bytes v)
