-- Reading a unit field by field, up to the first fault.
use Rattle.std.specs.Prelude.{ℕ, ◌+◌, ◌-◌, ◌==◌, ◌&&◌, nat_lt, nat_le, nat_eq, if◌then◌else◌, List, length, take, drop, Bool, Option, Some, None, Ok, Err}
use Rattle.std.specs.Cmp.Lexicographic.{pointwise}
use Rattle.std.specs.List.{list_all}
use Rattle.sha2.specs.Sha256.{sha256}
use Rattle.ix_types.specs.Name.{is_lower_hex}
use Rattle.ix_wire.specs.Grammar.{number_field, text_field, any_text_field, tested_at, items_at}
use Rattle.ix_wire.specs.Input.{Input}
use Rattle.ix_wire.specs.Read.{◌>>=◌}
use Rattle.ix_wire.specs.Read as wire
use Rattle.ix_unit.specs.declared.dependency.Dependency.{Dependency}
use Rattle.ix_unit.specs.declared.dependency.Dependency.TheVariants.{Unit, Record, File}
use Rattle.ix_unit.specs.declared.fault.UnitError.{UnitError}
use Rattle.ix_unit.specs.declared.fault.UnitError.TheVariants.{BadMagic, Short, BadField, OutOfOrder, BadDigest, Trailing}
use Rattle.ix_unit.specs.declared.value.RecordDep.{RecordDep}
use Rattle.ix_unit.specs.declared.value.FileDep.{FileDep}
use Rattle.ix_unit.specs.declared.value.Include.{Include}
use Rattle.ix_unit.specs.declared.value.UnitValue.{UnitValue}
use Rattle.ix_unit.specs.Fault.{unit_error}
use Rattle.ix_unit.specs.ByKind.{by_kind}
use Rattle.ix_unit.specs.Order.{dependency_cmp, include_cmp}

-- a value and what is left, or the first fault
abbrev pub Read : Type 0 → Type 0
Read = wire.Read UnitError

unfoldable pub number_at : Input → Read ℕ
number_at = number_field unit_error

-- a text of at least one byte
unfoldable pub path_at : Input → Read (List ℕ)
path_at = text_field unit_error

-- a text that may be empty
unfoldable pub any_text_at : Input → Read (List ℕ)
any_text_at = any_text_field unit_error

-- ---- fields that not everything may be

-- IXU1 as a number
abbrev pub is_magic : ℕ → Bool
is_magic n = n == 0x4958_5531

abbrev pub is_flag : ℕ → Bool
is_flag n = nat_lt n 2

abbrev pub is_line : ℕ → Bool
is_line n = nat_lt 0 n

-- 1 to 64 lower-case hex digits
unfoldable pub is_file_name : List ℕ → Bool
is_file_name name = nat_lt 0 (length name) && (nat_le (length name) 64 && list_all is_lower_hex name)

unfoldable pub magic_at : Input → Read ℕ
magic_at = tested_at number_at (λ _. BadMagic) is_magic

unfoldable pub flag_at : Input → Read Bool
flag_at from = tested_at number_at BadField is_flag from >>= λ n. Ok (n.0 == 1, n.1)

unfoldable pub line_at : Input → Read ℕ
line_at = tested_at number_at BadField is_line

unfoldable pub name_at : Input → Read (List ℕ)
name_at = tested_at path_at BadField is_file_name

-- ---- dependencies and includes

unfoldable pub record_dep_at : Input → Read RecordDep
record_dep_at from = do
  path ← path_at from
  system ← flag_at path.1
  name ← name_at system.1
  Ok (record { path = path.0; system = system.0; name = name.0 }, name.1)

unfoldable pub file_dep_at : Input → Read FileDep
file_dep_at from = do
  path ← path_at from
  system ← flag_at path.1
  Ok (record { path = path.0; system = system.0 }, system.1)

-- what stands behind the number of its kind, which stood at start
unfoldable pub dependency_of : ℕ → ℕ → Input → Read Dependency
dependency_of start kind from =
    if kind == 1 then (path_at from >>= λ output. Ok (Unit output.0, output.1))
    else (if kind == 2 then (record_dep_at from >>= λ d. Ok (Record d.0, d.1))
    else (if kind == 3 then (file_dep_at from >>= λ d. Ok (File d.0, d.1))
    else Err (BadField start)))

unfoldable pub dependency_at : Input → Read Dependency
dependency_at from = number_at from >>= λ kind. dependency_of from.at kind.0 kind.1

unfoldable pub dependencies_at : ℕ → Input → Read (List Dependency)
dependencies_at count = items_at OutOfOrder dependency_at dependency_cmp count None

unfoldable pub include_at : Input → Read Include
include_at start = do
  from ← path_at start
  line ← line_at from.1
  to ← path_at line.1
  Ok (record { from = from.0; line = line.0; to = to.0 }, to.1)

unfoldable pub includes_at : ℕ → Input → Read (List Include)
includes_at count = items_at OutOfOrder include_at include_cmp count None

-- ---- a unit

-- all that stands before the digest
unfoldable pub unit_fields_at : Input → Read UnitValue
unit_fields_at from = do
  magic ← magic_at from
  output ← path_at magic.1
  main_file ← any_text_at output.1
  module_name ← any_text_at main_file.1
  system ← flag_at module_name.1
  dependency_count ← number_at system.1
  dependencies ← dependencies_at dependency_count.0 dependency_count.1
  include_count ← number_at dependencies.1
  includes ← includes_at include_count.0 include_count.1
  Ok (
    record {
      output = output.0;
      main_file = main_file.0;
      module_name = module_name.0;
      system = system.0;
      units = (by_kind dependencies.0).units;
      records = (by_kind dependencies.0).records;
      files = (by_kind dependencies.0).files;
      includes = includes.0;
    },
    includes.1,
  )

-- The digest of the bytes before the place stands there, and nothing behind it; else the first fault.
unfoldable pub seal_fault : List ℕ → ℕ → Option UnitError
seal_fault bytes at =
    if nat_lt (length bytes - at) 32 then Some Short
    else (if pointwise nat_eq (take 32 (drop at bytes)) (sha256 (take at bytes)) then (if nat_lt 32 (length bytes - at) then Some (Trailing (at + 32)) else None)
    else Some BadDigest)

-- the fault of the fields, and else of what stands behind them
abbrev pub fault_of : List ℕ → Read UnitValue → Option UnitError
fault_of bytes (Ok v) = seal_fault bytes v.1.at
fault_of bytes (Err e) = Some e

-- the first fault of the bytes
unfoldable pub unit_fault : List ℕ → Option UnitError
unit_fault bytes = fault_of bytes (unit_fields_at (record { at = 0; rest = bytes }))
