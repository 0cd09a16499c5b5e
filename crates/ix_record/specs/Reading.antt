-- Reading a record field by field, up to the first fault.
use Rattle.std.specs.Prelude.{ℕ, ◌^◌, ◌==◌, ◌&&◌, nat_lt, if◌then◌else◌, List, [], length, Bool, Option, Some, None, Ok, Err, bit_and}
use Rattle.std.specs.List.{list_all}
use Rattle.ix_types.specs.Codes.{has_code, kinds, langs, relation_bits}
use Rattle.ix_wire.specs.Grammar.{number_field, text_field, any_text_field, tested_at, items_at}
use Rattle.ix_wire.specs.Input.{Input}
use Rattle.ix_wire.specs.Read.{◌>>=◌}
use Rattle.ix_wire.specs.Read as wire
use Rattle.ix_record.specs.declared.fault.RecordError.{RecordError}
use Rattle.ix_record.specs.declared.fault.RecordError.TheVariants.{BadMagic, BadField, OutOfOrder, BadIndex, RolesMissing, Trailing}
use Rattle.ix_types.specs.declared.format.Format.{Format}
use Rattle.ix_types.specs.declared.format.Format.TheVariants.{One, Two}
use Rattle.ix_record.specs.declared.value.TheConstants.{MAGIC_ONE, MAGIC_TWO}
use Rattle.ix_record.specs.declared.value.Symbol.{Symbol}
use Rattle.ix_record.specs.declared.value.Relation.{Relation}
use Rattle.ix_record.specs.declared.value.Occurrence.{Occurrence}
use Rattle.ix_record.specs.declared.value.RecordValue.{RecordValue}
use Rattle.ix_record.specs.Fault.{record_error}
use Rattle.ix_record.specs.Order.{symbol_cmp, relation_cmp, occurrence_cmp}

-- a value and what is left, or the first fault
abbrev pub Read : Type 0 → Type 0
Read = wire.Read RecordError

unfoldable pub number_at : Input → Read ℕ
number_at = number_field record_error

unfoldable pub usr_at : Input → Read (List ℕ)
usr_at = text_field record_error

unfoldable pub name_at : Input → Read (List ℕ)
name_at = any_text_field record_error

-- the code generation name, which is no field of format One
unfoldable pub codegen_at : Format → Input → Read (List ℕ)
codegen_at One from = Ok ([], from)
codegen_at Two from = any_text_field record_error from

-- the format that a file has which begins with the number
abbrev pub format_of : ℕ → Input → Read Format
format_of magic to =
    if magic == MAGIC_ONE then Ok (One, to)
    else (if magic == MAGIC_TWO then Ok (Two, to)
    else Err BadMagic)

unfoldable pub format_at : Input → Read Format
format_at from = do
  magic ← number_at from
  format_of magic.0 magic.1

-- ---- numbers that not every number may be

unfoldable pub is_kind : ℕ → Bool
is_kind n = has_code kinds n

unfoldable pub is_lang : ℕ → Bool
is_lang n = has_code langs n

abbrev pub are_props : ℕ → Bool
are_props n = nat_lt n (2 ^ 9)

abbrev pub is_coordinate : ℕ → Bool
is_coordinate n = nat_lt 0 n

abbrev pub is_index : ℕ → ℕ → Bool
is_index symbols n = nat_lt n symbols

abbrev pub are_roles : ℕ → Bool
are_roles n = nat_lt 0 n && nat_lt n (2 ^ 19)

abbrev pub are_relations : ℕ → Bool
are_relations n = nat_lt 0 n && bit_and n relation_bits == n

-- a number that passes the test, or a fault at its place
abbrev pub field_at : (ℕ → RecordError) → (ℕ → Bool) → Input → Read ℕ
field_at = tested_at number_at

unfoldable pub kind_at : Input → Read ℕ
kind_at = field_at BadField is_kind

unfoldable pub lang_at : Input → Read ℕ
lang_at = field_at BadField is_lang

unfoldable pub props_at : Input → Read ℕ
props_at = field_at BadField are_props

unfoldable pub coordinate_at : Input → Read ℕ
coordinate_at = field_at BadField is_coordinate

unfoldable pub index_at : ℕ → Input → Read ℕ
index_at symbols = field_at BadIndex (is_index symbols)

unfoldable pub roles_at : Input → Read ℕ
roles_at = field_at BadField are_roles

unfoldable pub relation_roles_at : Input → Read ℕ
relation_roles_at = field_at BadField are_relations

-- ---- a record

unfoldable pub symbol_at : Format → Input → Read Symbol
symbol_at format from = do
  kind ← kind_at from
  lang ← lang_at kind.1
  props ← props_at lang.1
  usr ← usr_at props.1
  name ← name_at usr.1
  codegen ← codegen_at format name.1
  Ok (record { kind = kind.0; lang = lang.0; props = props.0; usr = usr.0; name = name.0; codegen = codegen.0 }, codegen.1)

unfoldable pub relation_at : ℕ → Input → Read Relation
relation_at symbols from = do
  roles ← relation_roles_at from
  symbol ← index_at symbols roles.1
  Ok (record { symbol = symbol.0; roles = roles.0 }, symbol.1)

-- the roles have those of each relation
unfoldable pub has_roles : ℕ → List Relation → Bool
has_roles roles = list_all (λ r. bit_and roles r.roles == r.roles)

unfoldable pub symbols_at : Format → ℕ → Input → Read (List Symbol)
symbols_at format count = items_at OutOfOrder (symbol_at format) symbol_cmp count None

unfoldable pub relations_at : ℕ → ℕ → Input → Read (List Relation)
relations_at symbols count = items_at OutOfOrder (relation_at symbols) relation_cmp count None

unfoldable pub occurrence_at : ℕ → Input → Read Occurrence
occurrence_at symbols from = do
  line ← coordinate_at from
  column ← coordinate_at line.1
  symbol ← index_at symbols column.1
  roles ← roles_at symbol.1
  count ← number_at roles.1
  relations ← relations_at symbols count.0 count.1
  if has_roles roles.0 relations.0
      then Ok (record { line = line.0; column = column.0; symbol = symbol.0; roles = roles.0; relations = relations.0 }, relations.1)
      else Err (RolesMissing symbol.1.at)

unfoldable pub occurrences_at : ℕ → ℕ → Input → Read (List Occurrence)
occurrences_at symbols count = items_at OutOfOrder (occurrence_at symbols) occurrence_cmp count None

-- all of the fields; the magic decides which they are
unfoldable pub fields_at : Input → Read RecordValue
fields_at from = do
  format ← format_at from
  symbol_count ← number_at format.1
  symbols ← symbols_at format.0 symbol_count.0 symbol_count.1
  occurrence_count ← number_at symbols.1
  occurrences ← occurrences_at symbol_count.0 occurrence_count.0 occurrence_count.1
  Ok (record { format = format.0; symbols = symbols.0; occurrences = occurrences.0 }, occurrences.1)

-- all of the bytes
unfoldable pub record_at : Input → Read RecordValue
record_at from = do
  value ← fields_at from
  if length value.1.rest == 0 then Ok value else Err (Trailing value.1.at)

abbrev pub fault_of : Read RecordValue → Option RecordError
fault_of (Ok v) = None
fault_of (Err e) = Some e

-- the first fault of the bytes
unfoldable pub record_fault : List ℕ → Option RecordError
record_fault bytes = fault_of (record_at (record { at = 0; rest = bytes }))
