-- All rows of a map of units: one for each occurrence of each record dependency of each unit.
use Rattle.std.specs.Prelude.{ℕ, List, [], ◌∷◌, ◌++◌, Option, option_map, slice_get}
use Rattle.std.specs.List.{flat_map, filter_map}
use Rattle.ix_types.specs.declared.row.RelRow.{RelRow}
use Rattle.ix_types.specs.declared.row.OccRow.{OccRow}
use Rattle.ix_record.specs.declared.value.Symbol.{Symbol}
use Rattle.ix_record.specs.declared.value.Relation.{Relation}
use Rattle.ix_record.specs.declared.value.Occurrence.{Occurrence}
use Rattle.ix_record.specs.declared.value.RecordValue.{RecordValue}
use Rattle.ix_unit.specs.declared.value.RecordDep.{RecordDep}
use Rattle.ix_model.specs.declared.publication.StoredUnit.{StoredUnit}
use Rattle.ix_model.specs.Units.{Units}

-- a relation, with the USR of the symbol at its index
abbrev pub relation_row : List Symbol → Relation → Option RelRow
relation_row symbols relation = option_map (λ s. record { usr = s.usr; roles = relation.roles }) (slice_get symbols relation.symbol)

abbrev pub row_with : List ℕ → List Symbol → Occurrence → Symbol → OccRow
row_with path symbols o s = record {
  path = path;
  line = o.line;
  column = o.column;
  usr = s.usr;
  name = s.name;
  kind = s.kind;
  lang = s.lang;
  props = s.props;
  roles = o.roles;
  relations = filter_map (relation_row symbols) o.relations;
}

-- an occurrence in the file of a path, with the symbol at its index. A valid record has each index in range
abbrev pub occurrence_row : List ℕ → List Symbol → Occurrence → Option OccRow
occurrence_row path symbols o = option_map (row_with path symbols o) (slice_get symbols o.symbol)

abbrev pub rows_of_record : List ℕ → RecordValue → List OccRow
rows_of_record path value = filter_map (occurrence_row path value.symbols) value.occurrences

-- the rows of record dependencies with their values
abbrev pub rows_of_records : List RecordDep → List RecordValue → List OccRow
rows_of_records [] values = []
rows_of_records (dep ∷ deps) [] = []
rows_of_records (dep ∷ deps) (value ∷ values) = rows_of_record dep.path value ++ rows_of_records deps values

abbrev pub rows_of_unit : StoredUnit → List OccRow
rows_of_unit stored = rows_of_records stored.unit.records stored.values

abbrev pub rows : Units → List OccRow
rows units = flat_map (λ entry. rows_of_unit entry.1) units
