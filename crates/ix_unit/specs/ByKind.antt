-- The dependencies of each kind.
use Rattle.std.specs.Prelude.{ℕ, List, Option, Some, None}
use Rattle.std.specs.List.{filter_map}
use Rattle.ix_unit.specs.declared.dependency.Dependency.{Dependency}
use Rattle.ix_unit.specs.declared.dependency.Dependency.TheVariants.{Unit, Record, File}
use Rattle.ix_unit.specs.declared.dependency.ByKind.{ByKind}
use Rattle.ix_unit.specs.declared.value.RecordDep.{RecordDep}
use Rattle.ix_unit.specs.declared.value.FileDep.{FileDep}

abbrev pub as_unit : Dependency → Option (List ℕ)
as_unit (Unit output) = Some output
as_unit (Record dep) = None
as_unit (File dep) = None

abbrev pub as_record : Dependency → Option RecordDep
as_record (Unit output) = None
as_record (Record dep) = Some dep
as_record (File dep) = None

abbrev pub as_file : Dependency → Option FileDep
as_file (Unit output) = None
as_file (Record dep) = None
as_file (File dep) = Some dep

-- those of each kind, in their order
abbrev pub by_kind : List Dependency → ByKind
by_kind ds = record { units = filter_map as_unit ds; records = filter_map as_record ds; files = filter_map as_file ds }
