-- The records that are loaded.
use Rattle.std.specs.Prelude.{ℕ, List, map, Option}
use Rattle.std.specs.Str.{bytes_eq}
use Rattle.std.specs.Map.{lookup}
use Rattle.ix_record.specs.declared.value.RecordValue.{RecordValue}

-- the records that are loaded, by name, and how many more there is room for
pub record Loaded : Type 0 where
  pub entries : List (List ℕ × RecordValue)
  pub room : ℕ

-- the body that is loaded under a name
abbrev pub body_named : List ℕ → Loaded → Option RecordValue
body_named name bodies = lookup (bytes_eq name) bodies.entries

-- the names under which bodies are loaded
abbrev pub loaded_names : Loaded → List (List ℕ)
loaded_names bodies = map (λ entry. entry.0) bodies.entries
