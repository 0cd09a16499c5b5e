-- What units and records give to each look-up: values under keys, one item for each place where they stand.
use Rattle.std.specs.Prelude.{ℕ, ◌==◌, not, List, ◌++◌, length, map, filter}
use Rattle.ix_unit.specs.declared.value.UnitValue.{UnitValue}
use Rattle.ix_outline.specs.declared.outline.Outline.{Outline}

-- a key, and a value under it
abbrev pub Fact : Type 0
Fact = List ℕ × List ℕ

-- of a record: its name under the USR of each symbol that it holds
abbrev pub provided : List ℕ × Outline → List Fact
provided entry = map (λ symbol. (symbol.usr, entry.0)) entry.1.symbols

-- its name under each USR that its relations lead to
abbrev pub relating : List ℕ × Outline → List Fact
relating entry = map (λ usr. (usr, entry.0)) entry.1.related

-- the USR of each symbol under the symbol's name
abbrev pub naming : List ℕ × Outline → List Fact
naming entry = map (λ symbol. (symbol.name, symbol.usr)) entry.1.symbols

-- the USR of each symbol under its code generation name, where that isn't empty
abbrev pub coding : List ℕ × Outline → List Fact
coding entry = map (λ symbol. (symbol.codegen, symbol.usr)) (filter (λ symbol. not (length symbol.codegen == 0)) entry.1.symbols)

-- of a unit: the name of each record under the path where it is listed
abbrev pub placing : List ℕ × UnitValue → List Fact
placing entry = map (λ dep. (dep.path, dep.name)) entry.1.records

-- the path under the record's name
abbrev pub pathing : List ℕ × UnitValue → List Fact
pathing entry = map (λ dep. (dep.name, dep.path)) entry.1.records

-- its own name under the path of each record and of each file
abbrev pub listing_facts : List ℕ × UnitValue → List Fact
listing_facts entry = map (λ dep. (dep.path, entry.0)) entry.1.records ++ map (λ file. (file.path, entry.0)) entry.1.files
