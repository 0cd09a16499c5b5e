-- The code tables: each a list of rows, a code and its name.
use Rattle.std.specs.Prelude.{◌≡◌, ℕ, ◌==◌, ◌^◌, nat_eq, nat_le, ◌≤◌, filter, List, [], ◌∷◌, map, length, sum, Bool, not, codes, Option, bit_and}
use Rattle.std.specs.Option.{option_map}
use Rattle.ix_types.specs.declared.code.TheConstants.Roles.{RELATIONS}
use Rattle.std.specs.Int.{bit_at}
use Rattle.std.specs.List.{list_any, join_with_byte, IsDistinct}
use Rattle.std.specs.Map.{keys_of, lookup}
use Rattle.std.specs.Str.{bytes_eq}

abbrev pub Table : Type 0
Table = List (ℕ × List ℕ)

-- the kinds of symbols
abbrev pub kinds : Table
kinds =
    (0, codes "Unknown") ∷ (1, codes "Module") ∷ (2, codes "Namespace") ∷ (3, codes "NamespaceAlias") ∷ (4, codes "Macro")
    ∷ (5, codes "Enum") ∷ (6, codes "Struct") ∷ (7, codes "Class") ∷ (8, codes "Protocol") ∷ (9, codes "Extension")
    ∷ (10, codes "Union") ∷ (11, codes "TypeAlias") ∷ (12, codes "Function") ∷ (13, codes "Variable") ∷ (14, codes "Field")
    ∷ (15, codes "EnumConstant") ∷ (16, codes "InstanceMethod") ∷ (17, codes "ClassMethod") ∷ (18, codes "StaticMethod")
    ∷ (19, codes "InstanceProperty") ∷ (20, codes "ClassProperty") ∷ (21, codes "StaticProperty") ∷ (22, codes "Constructor")
    ∷ (23, codes "Destructor") ∷ (24, codes "ConversionFunction") ∷ (25, codes "Parameter") ∷ (26, codes "Using")
    ∷ (1000, codes "CommentTag") ∷ []

-- the languages
abbrev pub langs : Table
langs = (0, codes "C") ∷ (1, codes "Objective-C") ∷ (2, codes "C++") ∷ (100, codes "Swift") ∷ []

-- the roles, and from 9 on the relations, by the number of their bit
abbrev pub roles : Table
roles =
    (0, codes "Declaration") ∷ (1, codes "Definition") ∷ (2, codes "Reference") ∷ (3, codes "Read") ∷ (4, codes "Write")
    ∷ (5, codes "Call") ∷ (6, codes "Dynamic") ∷ (7, codes "AddressOf") ∷ (8, codes "Implicit")
    ∷ (9, codes "ChildOf") ∷ (10, codes "BaseOf") ∷ (11, codes "OverrideOf") ∷ (12, codes "ReceivedBy") ∷ (13, codes "CalledBy")
    ∷ (14, codes "ExtendedBy") ∷ (15, codes "AccessorOf") ∷ (16, codes "ContainedBy") ∷ (17, codes "IBTypeOf")
    ∷ (18, codes "SpecializationOf") ∷ []

-- the properties, by the number of their bit
abbrev pub props : Table
props =
    (0, codes "Generic") ∷ (1, codes "TemplatePartialSpecialization") ∷ (2, codes "TemplateSpecialization") ∷ (3, codes "UnitTest")
    ∷ (4, codes "IBAnnotated") ∷ (5, codes "IBOutletCollection") ∷ (6, codes "GKInspectable") ∷ (7, codes "Local")
    ∷ (8, codes "ProtocolInterface") ∷ []

-- whether some row has the code
abbrev pub has_code : Table → ℕ → Bool
has_code table code = list_any (λ row. row.0 == code) table

-- whether some row has the name
abbrev pub has_name : Table → List ℕ → Bool
has_name table name = list_any (λ row. bytes_eq row.1 name) table

-- the name of the code's row
abbrev pub name_of_code : Table → ℕ → Option (List ℕ)
name_of_code table code = lookup (λ row_code. row_code == code) table

-- the rows with the name first
abbrev pub by_name : Table → List (List ℕ × ℕ)
by_name table = map (λ row. (row.1, row.0)) table

-- the code of the name's row
abbrev pub code_of_name : Table → List ℕ → Option ℕ
code_of_name table name = lookup (λ row_name. bytes_eq row_name name) (by_name table)

-- at most so many rows, whose codes differ and whose names differ
pub record IsCodeTable (most : ℕ) (table : Table) : Type 0 where
  pub fits : length table ≤ most
  pub codes_differ : IsDistinct nat_eq (keys_of table)
  pub names_differ : IsDistinct bytes_eq (keys_of (by_name table))

-- the words of queries
abbrev pub queries : Table
queries =
    (0, codes "def") ∷ (1, codes "refs") ∷ (2, codes "occ") ∷ (3, codes "rel") ∷ (4, codes "callers") ∷ (5, codes "overrides")
    ∷ (6, codes "name") ∷ (7, codes "pattern") ∷ (8, codes "symbols") ∷ (9, codes "mains") ∷ (10, codes "units")
    ∷ (11, codes "includes") ∷ (12, codes "includers") ∷ (13, codes "incoming") ∷ (14, codes "outgoing")
    ∷ (15, codes "supertypes") ∷ (16, codes "subtypes") ∷ (17, codes "codegen") ∷ []

-- the words of steps
abbrev pub verbs : Table
verbs =
    (0, codes "build") ∷ (1, codes "remove") ∷ (2, codes "poll") ∷ (3, codes "refresh") ∷ (4, codes "ask")
    ∷ (5, codes "release") ∷ (6, codes "collect") ∷ []

-- the names of the rows whose codes are set bits, in the table's order, with `+` between each two
abbrev pub words_of : Table → ℕ → List ℕ
words_of table bits = join_with_byte 43 (map (λ row. row.1) (filter (λ row. bit_at bits row.0 == 1) table))

-- the code of structs among the kinds
abbrev pub struct_code : ℕ
struct_code = 6

-- the code of Swift among the languages
abbrev pub swift_code : ℕ
swift_code = 100

-- the mask of a bit that has a name
abbrev pub mask_of_name : Table → List ℕ → Option ℕ
mask_of_name table name = option_map (λ bit. 2 ^ bit) (code_of_name table name)

-- the mask of the bits from one on
abbrev pub masks_from : ℕ → Table → ℕ
masks_from first table = sum (map (λ row. 2 ^ row.0) (filter (λ row. nat_le first row.0) table))

-- the bits of the relations, 9 to 18
abbrev pub relation_bits : ℕ
relation_bits = RELATIONS

-- whether some roles have a bit of the mask
abbrev pub has_any : ℕ → ℕ → Bool
has_any roles mask = not (bit_and roles mask == 0)

-- a bit that is set in both
pub record ShareBit (roles mask : ℕ) : Type 0 where
  pub bit : ℕ
  pub in_roles : bit_at roles bit ≡ 1
  pub in_mask : bit_at mask bit ≡ 1
