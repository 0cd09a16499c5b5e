-- What look-ups and answers mean, in a user's words.
use Rattle.std.specs.Prelude.{◌≡◌, ◌≢◌, ℕ, ◌⊎◌, Bool, true, List, [], ◌++◌, Some, Contains, slice_get}
use Rattle.std.specs.Int.{bit_at}
use Rattle.ix_types.specs.Codes.{ShareBit}
use Rattle.ix_types.specs.declared.row.RelRow.{RelRow}
use Rattle.ix_types.specs.declared.row.OccRow.{OccRow}
use Rattle.ix_types.specs.declared.row.EdgeRow.{EdgeRow}
use Rattle.ix_types.specs.declared.row.Row.{Row}
use Rattle.ix_types.specs.declared.row.Row.TheVariants.{Occ, Path, Unit as UnitRow, Edge}
use Rattle.ix_record.specs.declared.value.Symbol.{Symbol}
use Rattle.ix_record.specs.declared.value.Relation.{Relation}
use Rattle.ix_record.specs.declared.value.Occurrence.{Occurrence}
use Rattle.ix_record.specs.declared.value.RecordValue.{RecordValue}
use Rattle.ix_unit.specs.declared.value.RecordDep.{RecordDep}
use Rattle.ix_unit.specs.declared.value.FileDep.{FileDep}
use Rattle.ix_unit.specs.declared.value.Include.{Include}
use Rattle.ix_model.specs.declared.publication.StoredUnit.{StoredUnit}
use Rattle.ix_model.specs.Answer.{IsAmongDefinitions}
use Rattle.ix_model.specs.Rows.{rows}
use Rattle.ix_model.specs.Units.{Units}
use Rattle.ix_answers.specs.Pattern.{folded}

-- a unit lists the record, and this is its value
pub record IsRecord (units : Units) (dep : RecordDep) (value : RecordValue) : Type 0 where
  pub entry : List ℕ × StoredUnit
  pub of_units : Contains units entry
  pub place : ℕ
  pub lists : slice_get entry.1.unit.records place ≡ Some dep
  pub has_value : slice_get entry.1.values place ≡ Some value

-- a record that a unit lists under this name holds the symbol
pub record Holds (units : Units) (name : List ℕ) (symbol : Symbol) : Type 0 where
  pub dep : RecordDep
  pub value : RecordValue
  pub of_units : IsRecord units dep value
  pub has_name : dep.name ≡ name
  pub holds : Contains value.symbols symbol

-- a record that a unit lists under this name has a relation to the symbol
pub record Relates (units : Units) (name : List ℕ) (symbol : Symbol) : Type 0 where
  pub dep : RecordDep
  pub value : RecordValue
  pub of_units : IsRecord units dep value
  pub has_name : dep.name ≡ name
  pub occurrence : Occurrence
  pub occurs : Contains value.occurrences occurrence
  pub relation : Relation
  pub relates : Contains occurrence.relations relation
  pub leads : slice_get value.symbols relation.symbol ≡ Some symbol

-- the record holds a symbol of the USR
pub record IsProvider (units : Units) (usr name : List ℕ) : Type 0 where
  pub symbol : Symbol
  pub holds : Holds units name symbol
  pub of_usr : symbol.usr ≡ usr

-- the record has a relation to the USR
pub record IsRelated (units : Units) (usr name : List ℕ) : Type 0 where
  pub symbol : Symbol
  pub relates : Relates units name symbol
  pub of_usr : symbol.usr ≡ usr

-- some record, of this name, holds a symbol
pub record IsSymbol (units : Units) (symbol : Symbol) : Type 0 where
  pub holder : List ℕ
  pub holds : Holds units holder symbol

-- a symbol of the name has the USR
pub record IsNamed (units : Units) (name usr : List ℕ) : Type 0 where
  pub symbol : Symbol
  pub is_symbol : IsSymbol units symbol
  pub of_name : symbol.name ≡ name
  pub of_usr : symbol.usr ≡ usr

-- some symbol has the name
pub record IsName (units : Units) (name : List ℕ) : Type 0 where
  pub symbol : Symbol
  pub is_symbol : IsSymbol units symbol
  pub of_name : symbol.name ≡ name

-- a symbol of the code generation name, which isn't empty, has the USR
pub record IsCoded (units : Units) (codegen usr : List ℕ) : Type 0 where
  pub symbol : Symbol
  pub is_symbol : IsSymbol units symbol
  pub of_codegen : symbol.codegen ≡ codegen
  pub not_empty : codegen ≢ []
  pub of_usr : symbol.usr ≡ usr

-- a unit lists the record of the name under the path
pub record ListsUnder (units : Units) (path name : List ℕ) : Type 0 where
  pub entry : List ℕ × StoredUnit
  pub of_units : Contains units entry
  pub dep : RecordDep
  pub lists : Contains entry.1.unit.records dep
  pub of_path : dep.path ≡ path
  pub has_name : dep.name ≡ name

-- a unit has a record under the path
pub record HasRecordAt (stored : StoredUnit) (path : List ℕ) : Type 0 where
  pub dep : RecordDep
  pub lists : Contains stored.unit.records dep
  pub of_path : dep.path ≡ path

-- a unit has a file without a record at the path
pub record HasFileAt (stored : StoredUnit) (path : List ℕ) : Type 0 where
  pub file : FileDep
  pub lists : Contains stored.unit.files file
  pub of_path : file.path ≡ path

-- a unit lists the path, as a record's or a file's
abbrev pub ListsPath : StoredUnit → List ℕ → Type 0
ListsPath stored path = HasRecordAt stored path ⊎ HasFileAt stored path

-- the unit of the name lists the path
pub record IsListing (units : Units) (path name : List ℕ) : Type 0 where
  pub stored : StoredUnit
  pub of_units : Contains units (name, stored)
  pub lists : ListsPath stored path

-- a unit that lists the path has this main file
pub record IsMain (units : Units) (path main : List ℕ) : Type 0 where
  pub entry : List ℕ × StoredUnit
  pub of_units : Contains units entry
  pub lists : ListsPath entry.1 path
  pub is_main : entry.1.unit.main_file ≡ main
  pub not_empty : main ≢ []

-- a unit has an include of the one path in the other
pub record IsIncluded (units : Units) (from to : List ℕ) : Type 0 where
  pub entry : List ℕ × StoredUnit
  pub of_units : Contains units entry
  pub include : Include
  pub has_include : Contains entry.1.unit.includes include
  pub is_from : include.from ≡ from
  pub is_to : include.to ≡ to

-- a row that refers to the USR: bit 2 of its roles is set
pub record IsReference (usr : List ℕ) (all : List OccRow) (row : OccRow) : Type 0 where
  pub of_all : Contains all row
  pub of_usr : row.usr ≡ usr
  pub refers : bit_at row.roles 2 ≡ 1

-- a row of the USR that has one of the roles
pub record IsOccurrence (usr : List ℕ) (roles : ℕ) (all : List OccRow) (row : OccRow) : Type 0 where
  pub of_all : Contains all row
  pub of_usr : row.usr ≡ usr
  pub has_role : ShareBit row.roles roles

-- a row with a relation to the USR that has one of the roles
pub record IsRelation (usr : List ℕ) (roles : ℕ) (all : List OccRow) (row : OccRow) : Type 0 where
  pub of_all : Contains all row
  pub relation : RelRow
  pub has_relation : Contains row.relations relation
  pub to_usr : relation.usr ≡ usr
  pub has_role : ShareBit relation.roles roles

-- a row of the USR that something calls there: bit 13 of a relation is set
pub record IsCall (usr : List ℕ) (all : List OccRow) (row : OccRow) : Type 0 where
  pub of_all : Contains all row
  pub of_usr : row.usr ≡ usr
  pub relation : RelRow
  pub has_relation : Contains row.relations relation
  pub is_called : bit_at relation.roles 13 ≡ 1

-- a row of what overrides the USR: bit 11 of a relation to it is set
pub record IsOverride (usr : List ℕ) (all : List OccRow) (row : OccRow) : Type 0 where
  pub of_all : Contains all row
  pub relation : RelRow
  pub has_relation : Contains row.relations relation
  pub to_usr : relation.usr ≡ usr
  pub overrides : bit_at relation.roles 11 ≡ 1

-- a row of the path that declares or defines something: bit 0 or 1 of its roles is set
pub record IsDeclaredIn (path : List ℕ) (all : List OccRow) (row : OccRow) : Type 0 where
  pub of_all : Contains all row
  pub of_path : row.path ≡ path
  pub declares : (bit_at row.roles 0 ≡ 1) ⊎ (bit_at row.roles 1 ≡ 1)

-- a definition of a USR that some symbol of the name has
pub record IsDefinedByName (units : Units) (name : List ℕ) (row : OccRow) : Type 0 where
  pub usr : List ℕ
  pub has_usr : IsNamed units name usr
  pub defines : IsAmongDefinitions usr (rows units) row

-- the same for a code generation name
pub record IsDefinedByCodegen (units : Units) (codegen : List ℕ) (row : OccRow) : Type 0 where
  pub usr : List ℕ
  pub has_usr : IsCoded units codegen usr
  pub defines : IsAmongDefinitions usr (rows units) row

-- the row is that of an occurrence of which this is true
abbrev pub IsRowOf : (OccRow → Type 0) → Row → Type 0
IsRowOf P r = (row : OccRow) × (r ≡ Occ row) × P row

-- the row is a path of which this is true
abbrev pub IsPathOf : (List ℕ → Type 0) → Row → Type 0
IsPathOf P r = (path : List ℕ) × (r ≡ Path path) × P path

-- the row is the name of a unit of which this is true
abbrev pub IsUnitOf : (List ℕ → Type 0) → Row → Type 0
IsUnitOf P r = (name : List ℕ) × (r ≡ UnitRow name) × P name

-- the row is an edge of which this is true
abbrev pub IsEdgeOf : (EdgeRow → Type 0) → Row → Type 0
IsEdgeOf P r = (e : EdgeRow) × (r ≡ Edge e) × P e

-- a name has the text, at its start and at its end where that is asked for
pub record HasText (text : List ℕ) (start end : Bool) (name : List ℕ) : Type 0 where
  pub front : List ℕ
  pub rest : List ℕ
  pub whole : name ≡ front ++ text ++ rest
  pub at_start : start ≡ true → front ≡ []
  pub at_end : end ≡ true → rest ≡ []

-- a definition of a USR that a symbol has whose name matches the pattern
pub record IsDefinedByPattern (units : Units) (text : List ℕ) (start end fold : Bool) (row : OccRow) : Type 0 where
  pub symbol : Symbol
  pub is_symbol : IsSymbol units symbol
  pub has_text : HasText (folded fold text) start end (folded fold symbol.name)
  pub defines : IsAmongDefinitions symbol.usr (rows units) row

-- the record holds a symbol of one of the USRs
pub record IsProviderOfOne (units : Units) (usrs : List (List ℕ)) (name : List ℕ) : Type 0 where
  pub usr : List ℕ
  pub is_one : Contains usrs usr
  pub provides : IsProvider units usr name

-- the record has a relation to one of the USRs
pub record IsRelatedToOne (units : Units) (usrs : List (List ℕ)) (name : List ℕ) : Type 0 where
  pub usr : List ℕ
  pub is_one : Contains usrs usr
  pub relates : IsRelated units usr name
