-- What tables remember of a record: what names its symbols, and what its relations lead to.
use Rattle.std.specs.Prelude.{ℕ, List, map, Option, slice_get}
use Rattle.std.specs.List.{flat_map, filter_map}
use Rattle.std.specs.Option.{option_map}
use Rattle.ix_types.specs.Row.{text_cmp}
use Rattle.ix_record.specs.declared.value.Symbol.{Symbol}
use Rattle.ix_record.specs.declared.value.Relation.{Relation}
use Rattle.ix_record.specs.declared.value.RecordValue.{RecordValue}
use Rattle.ix_model.specs.SortedSet.{sorted_set}
use Rattle.ix_outline.specs.declared.outline.OutlineSymbol.{OutlineSymbol}
use Rattle.ix_outline.specs.declared.outline.Outline.{Outline}

-- what names a symbol
abbrev pub outline_symbol : Symbol → OutlineSymbol
outline_symbol s = record { usr = s.usr; name = s.name; codegen = s.codegen }

-- the USR of the symbol at a relation's index
abbrev pub related_usr : List Symbol → Relation → Option (List ℕ)
related_usr symbols relation = option_map (λ s. s.usr) (slice_get symbols relation.symbol)

-- the USRs that the relations of a record lead to, one for each relation
abbrev pub related_usrs : RecordValue → List (List ℕ)
related_usrs value = flat_map (λ o. filter_map (related_usr value.symbols) o.relations) value.occurrences

-- the symbols in their order, and the related USRs, rising and each once
abbrev pub outline_of : RecordValue → Outline
outline_of value = record { symbols = map outline_symbol value.symbols; related = sorted_set text_cmp (related_usrs value) }
