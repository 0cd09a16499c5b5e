-- What a valid record is: rules on whole lists, with no byte in them.
use Rattle.std.specs.Prelude.{◌≡◌, ℕ, ◌^◌, ◌<◌, List, [], length, All, IsTrue, bit_and}
use Rattle.std.specs.List.Sorted.{IsStrictlySortedBy}
use Rattle.ix_types.specs.Codes.{has_code, kinds, langs, relation_bits}
use Rattle.ix_types.specs.Text.{IsText, IsTextOrEmpty}
use Rattle.ix_types.specs.declared.format.Format.{Format}
use Rattle.ix_types.specs.declared.format.Format.TheVariants.{One, Two}
use Rattle.ix_record.specs.declared.value.Symbol.{Symbol}
use Rattle.ix_record.specs.declared.value.Relation.{Relation}
use Rattle.ix_record.specs.declared.value.Occurrence.{Occurrence}
use Rattle.ix_record.specs.declared.value.RecordValue.{RecordValue}
use Rattle.ix_record.specs.Order.{symbol_cmp, relation_cmp, occurrence_cmp}

-- a line or a column, which count from 1
abbrev pub IsCoordinate : ℕ → Type 0
IsCoordinate n = (0 < n) × (n < 2 ^ 32)

-- a symbol of format One has no code generation name, and in format Two it may be empty
abbrev pub IsCodegen : Format → List ℕ → Type 0
IsCodegen One codegen = codegen ≡ []
IsCodegen Two codegen = IsTextOrEmpty codegen

-- the codes are in the tables, and of the texts only the USR may not be empty
pub record IsValidSymbol (format : Format) (s : Symbol) : Type 0 where
  pub known_kind : IsTrue (has_code kinds s.kind)
  pub known_lang : IsTrue (has_code langs s.lang)
  pub known_props : s.props < 2 ^ 9
  pub usr_text : IsText s.usr
  pub name_text : IsTextOrEmpty s.name
  pub codegen_text : IsCodegen format s.codegen

-- a symbol of the record, and relation bits alone, at least one
pub record IsValidRelation (symbols : ℕ) (r : Relation) : Type 0 where
  pub in_range : r.symbol < symbols
  pub some_role : 0 < r.roles
  pub relations_alone : bit_and r.roles relation_bits ≡ r.roles

-- the roles have those of the relation
abbrev pub HasRolesOf : ℕ → Relation → Type 0
HasRolesOf roles r = bit_and roles r.roles ≡ r.roles

-- in a record with that many symbols
pub record IsValidOccurrence (symbols : ℕ) (o : Occurrence) : Type 0 where
  pub line_counts : IsCoordinate o.line
  pub column_counts : IsCoordinate o.column
  pub in_range : o.symbol < symbols
  pub some_role : 0 < o.roles
  pub known_roles : o.roles < 2 ^ 19
  pub few_relations : length o.relations < 2 ^ 32
  pub valid_relations : All (IsValidRelation symbols) o.relations
  pub rising_relations : IsStrictlySortedBy relation_cmp o.relations
  pub has_their_roles : All (HasRolesOf o.roles) o.relations

pub record IsValidRecord (v : RecordValue) : Type 0 where
  pub few_symbols : length v.symbols < 2 ^ 32
  pub valid_symbols : All (IsValidSymbol v.format) v.symbols
  pub rising_symbols : IsStrictlySortedBy symbol_cmp v.symbols
  pub few_occurrences : length v.occurrences < 2 ^ 32
  pub valid_occurrences : All (IsValidOccurrence (length v.symbols)) v.occurrences
  pub rising_occurrences : IsStrictlySortedBy occurrence_cmp v.occurrences
