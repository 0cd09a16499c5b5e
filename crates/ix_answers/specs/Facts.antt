-- What units and their records say, in plain lists: one item for each place where it stands.
use Rattle.std.specs.Prelude.{ℕ, List, ◌++◌, map, Option, slice_get}
use Rattle.std.specs.List.{flat_map, filter_map, zip}
use Rattle.std.specs.Option.{option_map}
use Rattle.ix_record.specs.declared.value.Symbol.{Symbol}
use Rattle.ix_record.specs.declared.value.Relation.{Relation}
use Rattle.ix_record.specs.declared.value.RecordValue.{RecordValue}
use Rattle.ix_unit.specs.declared.value.RecordDep.{RecordDep}
use Rattle.ix_unit.specs.declared.value.Include.{Include}
use Rattle.ix_model.specs.declared.publication.StoredUnit.{StoredUnit}
use Rattle.ix_model.specs.Units.{Units}
use Rattle.ix_answers.specs.declared.facts.HeldSymbol.{HeldSymbol}
use Rattle.ix_answers.specs.declared.facts.RelatedSymbol.{RelatedSymbol}
use Rattle.ix_answers.specs.declared.facts.ListedPath.{ListedPath}

-- the record dependencies of a unit that have a value, each with it
abbrev pub valued : StoredUnit → List (RecordDep × RecordValue)
valued stored = zip stored.unit.records stored.values

-- a symbol, with the name of the record that holds it
abbrev pub held_symbol : List ℕ → Symbol → HeldSymbol
held_symbol name s = record { holder = name; usr = s.usr; name = s.name; codegen = s.codegen }

-- the symbols of a record
abbrev pub held_in : List ℕ → RecordValue → List HeldSymbol
held_in name value = map (held_symbol name) value.symbols

-- the symbol at a relation's index, with the name of the record that has the relation
abbrev pub related_symbol : List ℕ → List Symbol → Relation → Option RelatedSymbol
related_symbol name symbols relation = option_map (λ s. record { holder = name; usr = s.usr }) (slice_get symbols relation.symbol)

-- the symbols that a record's relations lead to
abbrev pub related_in : List ℕ → RecordValue → List RelatedSymbol
related_in name value = flat_map (λ o. filter_map (related_symbol name value.symbols) o.relations) value.occurrences

-- a path that a unit lists, with the unit's name and main file
abbrev pub listed_path : List ℕ → StoredUnit → List ℕ → ListedPath
listed_path name stored path = record { unit = name; main_file = stored.unit.main_file; path = path }

-- the paths of a unit's records, and those of its files
abbrev pub listed_in : List ℕ → StoredUnit → List ListedPath
listed_in name stored =
    map (λ dep. listed_path name stored dep.path) stored.unit.records ++ map (λ file. listed_path name stored file.path) stored.unit.files

-- the symbols of all records of the units
abbrev pub held : Units → List HeldSymbol
held units = flat_map (λ entry. flat_map (λ r. held_in r.0.name r.1) (valued entry.1)) units

-- the symbols that the relations of all records of the units lead to
abbrev pub related_symbols : Units → List RelatedSymbol
related_symbols units = flat_map (λ entry. flat_map (λ r. related_in r.0.name r.1) (valued entry.1)) units

-- the record dependencies of the units
abbrev pub record_deps : Units → List RecordDep
record_deps units = flat_map (λ entry. entry.1.unit.records) units

-- the paths that the units list
abbrev pub listed : Units → List ListedPath
listed units = flat_map (λ entry. listed_in entry.0 entry.1) units

-- the includes of the units
abbrev pub includes : Units → List Include
includes units = flat_map (λ entry. entry.1.unit.includes) units
