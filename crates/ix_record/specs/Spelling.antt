-- The one spelling of each record: its fields, one after the other.
use Rattle.std.specs.Prelude.{◌≡◌, ℕ, List, [], ◌++◌, length, codes}
use Rattle.std.specs.List.{flat_map}
use Rattle.ix_wire.specs.Spelling.{u32_bytes, text_bytes}
use Rattle.ix_types.specs.declared.format.Format.{Format}
use Rattle.ix_types.specs.declared.format.Format.TheVariants.{One, Two}
use Rattle.ix_record.specs.declared.value.Symbol.{Symbol}
use Rattle.ix_record.specs.declared.value.Relation.{Relation}
use Rattle.ix_record.specs.declared.value.Occurrence.{Occurrence}
use Rattle.ix_record.specs.declared.value.RecordValue.{RecordValue}
use Rattle.ix_record.specs.Value.{IsValidRecord}

-- the bytes that a record file of the format begins with
abbrev pub magic_bytes : Format → List ℕ
magic_bytes One = codes "IXR1"
magic_bytes Two = codes "IXR2"

-- the code generation name, which is no field of format One
abbrev pub codegen_bytes : Format → List ℕ → List ℕ
codegen_bytes One codegen = []
codegen_bytes Two codegen = text_bytes codegen

unfoldable pub symbol_bytes : Format → Symbol → List ℕ
symbol_bytes format s =
    u32_bytes s.kind ++ u32_bytes s.lang ++ u32_bytes s.props ++ text_bytes s.usr ++ text_bytes s.name ++ codegen_bytes format s.codegen

unfoldable pub relation_bytes : Relation → List ℕ
relation_bytes r = u32_bytes r.roles ++ u32_bytes r.symbol

unfoldable pub occurrence_bytes : Occurrence → List ℕ
occurrence_bytes o =
    u32_bytes o.line ++ u32_bytes o.column ++ u32_bytes o.symbol ++ u32_bytes o.roles
    ++ u32_bytes (length o.relations) ++ flat_map relation_bytes o.relations

unfoldable pub record_bytes : RecordValue → List ℕ
record_bytes v =
    magic_bytes v.format
    ++ u32_bytes (length v.symbols) ++ flat_map (symbol_bytes v.format) v.symbols
    ++ u32_bytes (length v.occurrences) ++ flat_map occurrence_bytes v.occurrences

-- the bytes are the fields of the value, and the value is valid
pub record RecordSpelling (bytes : List ℕ) (v : RecordValue) : Type 0 where
  pub valid : IsValidRecord v
  pub fields : bytes ≡ record_bytes v
