-- The tables of fields of a compile job, one definition an object: the names that it may have, then a line for each field, in the order in which
-- they are read, with its default in brackets where it has one. Limits of lists stand beside the lists.
use Rattle.std.specs.Prelude.{ℕ, List, [], ◌∷◌, codes, Bool, false, Ok}
use Rattle.std.specs.List.{list_any}
use Rattle.std.specs.Str.{bytes_eq}
use Rattle.serde_json.specs.Data.{Data}
use Rattle.ix_types.specs.Codes.{kinds, langs, swift_code}
use Rattle.ix_types.specs.declared.format.Format.{Format}
use Rattle.ix_types.specs.declared.format.Format.TheVariants.{One, Two}
use Rattle.ix_plan.specs.declared.plan.UnitPlan.{UnitPlan}
use Rattle.ix_plan.specs.declared.plan.RecordPlan.{RecordPlan}
use Rattle.ix_plan.specs.declared.plan.FilePlan.{FilePlan}
use Rattle.ix_plan.specs.declared.plan.IncludePlan.{IncludePlan}
use Rattle.ix_plan.specs.declared.plan.SymbolPlan.{SymbolPlan}
use Rattle.ix_plan.specs.declared.plan.OccurrencePlan.{OccurrencePlan}
use Rattle.ix_plan.specs.declared.plan.RelationPlan.{RelationPlan}
use Rattle.ix_plan.specs.declared.refusal.What.TheVariants as what
use Rattle.ix_plan.specs.Read.{Read, ◌>>=◌}
use Rattle.ix_plan.specs.Json.{with_fields, field, field_or, list_of}
use Rattle.ix_plan.specs.Values.{text_of, text_or_empty_of, flag_of, count_of, max_coordinate, word_of, role_of, relation_of, prop_of, bits_of, some_bits_of, new_usr_of, known_usr_of}

-- table of a file: `path`, `system` (false)
unfoldable pub file_of : Data → Read FilePlan
file_of d = do
  checked ← with_fields (codes "path" ∷ codes "system" ∷ []) d
  path ← field (codes "path") text_of d
  system ← field_or false (codes "system") flag_of d
  Ok (record { path = path; system = system })

-- table of an include: `from`, `line`, `to`
unfoldable pub include_of : Data → Read IncludePlan
include_of d = do
  checked ← with_fields (codes "from" ∷ codes "line" ∷ codes "to" ∷ []) d
  from ← field (codes "from") text_of d
  line ← field (codes "line") (count_of max_coordinate) d
  to ← field (codes "to") text_of d
  Ok (record { from = from; line = line; to = to })

-- table of a relation: `usr`, a symbol's of the record; `roles`, relations alone
unfoldable pub relation_plan_of : (List ℕ → Bool) → Data → Read RelationPlan
relation_plan_of known d = do
  checked ← with_fields (codes "usr" ∷ codes "roles" ∷ []) d
  usr ← field (codes "usr") (known_usr_of known) d
  roles ← field (codes "roles") (some_bits_of relation_of) d
  Ok (record { usr = usr; roles = roles })

-- table of an occurrence: `usr`, a symbol's of the record; `line`; `col`; `roles`; `relations` (none), at most 256
unfoldable pub occurrence_of : (List ℕ → Bool) → Data → Read OccurrencePlan
occurrence_of known d = do
  checked ← with_fields (codes "usr" ∷ codes "line" ∷ codes "col" ∷ codes "roles" ∷ codes "relations" ∷ []) d
  usr ← field (codes "usr") (known_usr_of known) d
  line ← field (codes "line") (count_of max_coordinate) d
  col ← field (codes "col") (count_of max_coordinate) d
  roles ← field (codes "roles") (some_bits_of role_of) d
  relations ← field_or [] (codes "relations") (list_of what.Relations 256 (λ before. relation_plan_of known)) d
  Ok (record { usr = usr; line = line; col = col; roles = roles; relations = relations })

-- the kind where none is said
abbrev pub unknown_code : ℕ
unknown_code = 0

-- the code generation name is a field in format Two alone
abbrev pub symbol_fields : Format → List (List ℕ)
symbol_fields One = codes "usr" ∷ codes "name" ∷ codes "kind" ∷ codes "lang" ∷ codes "props" ∷ []
symbol_fields Two = codes "usr" ∷ codes "name" ∷ codes "kind" ∷ codes "lang" ∷ codes "props" ∷ codes "codegen" ∷ []

abbrev pub codegen_of : Format → Data → Read (List ℕ)
codegen_of One d = Ok []
codegen_of Two d = field_or [] (codes "codegen") text_or_empty_of d

-- table of a symbol: `usr`, of no symbol before; `name` (empty); `kind` (Unknown); `lang` (Swift); `props` (none); in format Two `codegen` (empty)
unfoldable pub symbol_of : Format → (List ℕ → Bool) → Data → Read SymbolPlan
symbol_of format taken d = do
  checked ← with_fields (symbol_fields format) d
  usr ← field (codes "usr") (new_usr_of taken) d
  name ← field_or [] (codes "name") text_or_empty_of d
  kind ← field_or unknown_code (codes "kind") (word_of kinds) d
  lang ← field_or swift_code (codes "lang") (word_of langs) d
  props ← field_or 0 (codes "props") (bits_of prop_of) d
  codegen ← codegen_of format d
  Ok (record { usr = usr; name = name; kind = kind; lang = lang; props = props; codegen = codegen })

-- whether a symbol has the USR
abbrev pub is_usr_of : List SymbolPlan → List ℕ → Bool
is_usr_of symbols usr = list_any (λ symbol. bytes_eq usr symbol.usr) symbols

-- at most 65,536 symbols; no two have the same USR: the later one is refused
abbrev pub symbols_of : Format → Data → Read (List SymbolPlan)
symbols_of format d = list_of what.Symbols 65536 (λ before. symbol_of format (is_usr_of before)) d

-- at most 65,536 occurrences, of these symbols
abbrev pub occurrences_of : List SymbolPlan → Data → Read (List OccurrencePlan)
occurrences_of symbols d = list_of what.Occurrences 65536 (λ before. occurrence_of (is_usr_of symbols)) d

-- table of a record: `path`, `system` (false), `symbols` (none), `occurrences` (none)
unfoldable pub record_of : Format → Data → Read RecordPlan
record_of format d = do
  checked ← with_fields (codes "path" ∷ codes "system" ∷ codes "symbols" ∷ codes "occurrences" ∷ []) d
  path ← field (codes "path") text_of d
  system ← field_or false (codes "system") flag_of d
  symbols ← field_or [] (codes "symbols") (symbols_of format) d
  occurrences ← field_or [] (codes "occurrences") (occurrences_of symbols) d
  Ok (record { format = format; path = path; system = system; symbols = symbols; occurrences = occurrences })

-- table of a unit: `output`, `main` (empty), `module` (empty), `system` (false), and at most 4,096 each of `units` (none), `records` (none), `files` (none), `includes` (none)
unfoldable pub unit_of : Format → Data → Read UnitPlan
unit_of format d = do
  checked ← with_fields (codes "output" ∷ codes "main" ∷ codes "module" ∷ codes "system" ∷ codes "units" ∷ codes "records" ∷ codes "files" ∷ codes "includes" ∷ []) d
  output ← field (codes "output") text_of d
  main ← field_or [] (codes "main") text_or_empty_of d
  name ← field_or [] (codes "module") text_or_empty_of d
  system ← field_or false (codes "system") flag_of d
  units ← field_or [] (codes "units") (list_of what.Units 4096 (λ before. text_of)) d
  records ← field_or [] (codes "records") (list_of what.Records 4096 (λ before. record_of format)) d
  files ← field_or [] (codes "files") (list_of what.Files 4096 (λ before. file_of)) d
  includes ← field_or [] (codes "includes") (list_of what.Includes 4096 (λ before. include_of)) d
  Ok (record { output = output; main = main; «module» = name; system = system; units = units; records = records; files = files; includes = includes })
