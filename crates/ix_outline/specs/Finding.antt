-- What is found under a key among facts.
use Rattle.std.specs.Prelude.{ℕ, List, map, filter}
use Rattle.std.specs.Str.{bytes_eq}
use Rattle.ix_types.specs.Row.{text_cmp}
use Rattle.ix_model.specs.SortedSet.{sorted_set}
use Rattle.ix_outline.specs.Facts.{Fact}

-- the values that facts give under a key, rising and each once
abbrev pub values_under : List ℕ → List Fact → List (List ℕ)
values_under key facts = sorted_set text_cmp (map (λ fact. fact.1) (filter (λ fact. bytes_eq fact.0 key) facts))

-- the keys under which facts give a value, rising and each once
abbrev pub keys_given : List Fact → List (List ℕ)
keys_given facts = sorted_set text_cmp (map (λ fact. fact.0) facts)
