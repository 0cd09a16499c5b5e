-- The order of dependencies and includes.
use Rattle.std.specs.declared.cmp.Ordering.{Ordering}
use Rattle.std.specs.declared.cmp.Ordering.TheVariants.{Less, Greater}
use Rattle.std.specs.Ordering.{nat_cmp, bool_cmp, on, then_cmp}
use Rattle.ix_types.specs.Row.{text_cmp}
use Rattle.ix_unit.specs.declared.dependency.Dependency.{Dependency}
use Rattle.ix_unit.specs.declared.dependency.Dependency.TheVariants.{Unit, Record, File}
use Rattle.ix_unit.specs.declared.value.RecordDep.{RecordDep}
use Rattle.ix_unit.specs.declared.value.FileDep.{FileDep}
use Rattle.ix_unit.specs.declared.value.Include.{Include}

-- by path, system and name
abbrev pub record_dep_cmp : RecordDep → RecordDep → Ordering
record_dep_cmp = then_cmp (on (λ d. d.path) text_cmp) (then_cmp (on (λ d. d.system) bool_cmp) (on (λ d. d.name) text_cmp))

-- by path and system
abbrev pub file_dep_cmp : FileDep → FileDep → Ordering
file_dep_cmp = then_cmp (on (λ d. d.path) text_cmp) (on (λ d. d.system) bool_cmp)

-- units, then records, then files
abbrev pub dependency_cmp : Dependency → Dependency → Ordering
dependency_cmp (Unit a) (Unit b) = text_cmp a b
dependency_cmp (Unit a) (Record b) = Less
dependency_cmp (Unit a) (File b) = Less
dependency_cmp (Record a) (Unit b) = Greater
dependency_cmp (Record a) (Record b) = record_dep_cmp a b
dependency_cmp (Record a) (File b) = Less
dependency_cmp (File a) (Unit b) = Greater
dependency_cmp (File a) (Record b) = Greater
dependency_cmp (File a) (File b) = file_dep_cmp a b

-- by the including file, the line and the included file
abbrev pub include_cmp : Include → Include → Ordering
include_cmp = then_cmp (on (λ i. i.from) text_cmp) (then_cmp (on (λ i. i.line) nat_cmp) (on (λ i. i.to) text_cmp))
