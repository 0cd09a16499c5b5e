-- What a valid unit is: rules on whole lists, with no byte in them.
use Rattle.std.specs.Prelude.{ℕ, ◌^◌, ◌+◌, ◌<◌, length, All}
use Rattle.std.specs.List.Sorted.{IsStrictlySortedBy}
use Rattle.ix_types.specs.Name.{IsFileName}
use Rattle.ix_types.specs.Row.{text_cmp}
use Rattle.ix_types.specs.Text.{IsText, IsTextOrEmpty}
use Rattle.ix_unit.specs.declared.value.RecordDep.{RecordDep}
use Rattle.ix_unit.specs.declared.value.FileDep.{FileDep}
use Rattle.ix_unit.specs.declared.value.Include.{Include}
use Rattle.ix_unit.specs.declared.value.UnitValue.{UnitValue}
use Rattle.ix_unit.specs.Order.{record_dep_cmp, file_dep_cmp, include_cmp}

pub record IsValidRecordDep (d : RecordDep) : Type 0 where
  pub path_text : IsText d.path
  pub file_name : IsFileName d.name

abbrev pub IsValidFileDep : FileDep → Type 0
IsValidFileDep d = IsText d.path

-- a line, which counts from 1
abbrev pub IsLine : ℕ → Type 0
IsLine n = (0 < n) × (n < 2 ^ 32)

pub record IsValidInclude (i : Include) : Type 0 where
  pub from_text : IsText i.from
  pub line_counts : IsLine i.line
  pub to_text : IsText i.to

-- how many dependencies of all kinds
abbrev pub dependency_count : UnitValue → ℕ
dependency_count v = length v.units + length v.records + length v.files

-- only the main file and the module name may be empty
pub record IsValidUnit (v : UnitValue) : Type 0 where
  pub output_text : IsText v.output
  pub main_text : IsTextOrEmpty v.main_file
  pub module_text : IsTextOrEmpty v.module_name
  pub few_dependencies : dependency_count v < 2 ^ 32
  pub unit_texts : All IsText v.units
  pub rising_units : IsStrictlySortedBy text_cmp v.units
  pub valid_records : All IsValidRecordDep v.records
  pub rising_records : IsStrictlySortedBy record_dep_cmp v.records
  pub valid_files : All IsValidFileDep v.files
  pub rising_files : IsStrictlySortedBy file_dep_cmp v.files
  pub few_includes : length v.includes < 2 ^ 32
  pub valid_includes : All IsValidInclude v.includes
  pub rising_includes : IsStrictlySortedBy include_cmp v.includes
