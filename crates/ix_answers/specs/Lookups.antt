-- The ten look-ups over a map of units, from scratch: each a filter, rising and without repeats.
use Rattle.std.specs.Prelude.{ℕ, ◌==◌, ◌&&◌, not, Bool, List, length, map, filter, Option, slice_get}
use Rattle.std.specs.List.{list_any}
use Rattle.std.specs.Str.{bytes_eq}
use Rattle.ix_types.specs.Row.{text_cmp}
use Rattle.ix_model.specs.declared.publication.StoredUnit.{StoredUnit}
use Rattle.ix_model.specs.SortedSet.{sorted_set}
use Rattle.ix_model.specs.Units.{Units}
use Rattle.ix_answers.specs.declared.facts.HeldSymbol.{HeldSymbol}
use Rattle.ix_answers.specs.Facts.{held, related_symbols, record_deps, listed}

-- whether a text is one of some texts
abbrev pub is_among : List (List ℕ) → List ℕ → Bool
is_among texts text = list_any (λ other. bytes_eq other text) texts

-- a symbol of this code generation name, which isn't empty
abbrev pub is_coded : List ℕ → HeldSymbol → Bool
is_coded codegen symbol = bytes_eq symbol.codegen codegen && not (length symbol.codegen == 0)

-- the records that hold a symbol of the USR
abbrev pub providers : List ℕ → Units → List (List ℕ)
providers usr units = sorted_set text_cmp (map (λ symbol. symbol.holder) (filter (λ symbol. bytes_eq symbol.usr usr) (held units)))

-- the records with a relation to the USR
abbrev pub related : List ℕ → Units → List (List ℕ)
related usr units = sorted_set text_cmp (map (λ symbol. symbol.holder) (filter (λ symbol. bytes_eq symbol.usr usr) (related_symbols units)))

-- the USRs that symbols of the name have
abbrev pub named : List ℕ → Units → List (List ℕ)
named name units = sorted_set text_cmp (map (λ symbol. symbol.usr) (filter (λ symbol. bytes_eq symbol.name name) (held units)))

-- the names of symbols
abbrev pub names : Units → List (List ℕ)
names units = sorted_set text_cmp (map (λ symbol. symbol.name) (held units))

-- the USRs that symbols of the code generation name have; an empty one has none
abbrev pub coded : List ℕ → Units → List (List ℕ)
coded codegen units = sorted_set text_cmp (map (λ symbol. symbol.usr) (filter (is_coded codegen) (held units)))

-- the records that are listed under the path
abbrev pub in_path : List ℕ → Units → List (List ℕ)
in_path path units = sorted_set text_cmp (map (λ dep. dep.name) (filter (λ dep. bytes_eq dep.path path) (record_deps units)))

-- the paths under which the record is listed
abbrev pub paths : List ℕ → Units → List (List ℕ)
paths name units = sorted_set text_cmp (map (λ dep. dep.path) (filter (λ dep. bytes_eq dep.name name) (record_deps units)))

-- the units that list the path, as a record's or a file's
abbrev pub listing : List ℕ → Units → List (List ℕ)
listing path units = sorted_set text_cmp (map (λ l. l.unit) (filter (λ l. bytes_eq l.path path) (listed units)))

-- the name at a place, none past the last
abbrev pub name_at : ℕ → Units → Option (List ℕ)
name_at place units = slice_get (names units) place

-- the unit at a place, in the order of names, with its name; none past the last
abbrev pub unit_at : ℕ → Units → Option (List ℕ × StoredUnit)
unit_at place units = slice_get units place

-- the records that hold a symbol of one of the USRs
abbrev pub holders : List (List ℕ) → Units → List (List ℕ)
holders usrs units = sorted_set text_cmp (map (λ symbol. symbol.holder) (filter (λ symbol. is_among usrs symbol.usr) (held units)))

-- the records with a relation to one of the USRs
abbrev pub related_to : List (List ℕ) → Units → List (List ℕ)
related_to usrs units = sorted_set text_cmp (map (λ symbol. symbol.holder) (filter (λ symbol. is_among usrs symbol.usr) (related_symbols units)))
