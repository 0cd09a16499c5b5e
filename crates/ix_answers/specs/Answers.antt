-- What each query answers over a map of units: a filter of all rows, or of what all units list, sorted and without repeats.
use Rattle.std.specs.Prelude.{ℕ, ◌==◌, ◌&&◌, ◌||◌, not, Bool, List, length, map, filter}
use Rattle.std.specs.List.{flat_map, list_any}
use Rattle.std.specs.Str.{bytes_eq}
use Rattle.ix_types.specs.Codes.{has_any}
use Rattle.ix_types.specs.declared.code.TheConstants.Roles.{DECLARATION, DEFINITION, REFERENCE, OVERRIDE_OF, CALLED_BY}
use Rattle.ix_types.specs.Row.{text_cmp, occurrence_cmp}
use Rattle.ix_types.specs.declared.row.OccRow.{OccRow}
use Rattle.ix_types.specs.declared.row.Query.{Query}
use Rattle.ix_types.specs.declared.row.Query.TheVariants as ask
use Rattle.ix_types.specs.declared.row.Row.{Row}
use Rattle.ix_types.specs.declared.row.Row.TheVariants.{Occ, Path, Unit as UnitRow}
use Rattle.ix_model.specs.Answer.{is_with, definitions, definitions_of}
use Rattle.ix_model.specs.Rows.{rows}
use Rattle.ix_model.specs.SortedSet.{sorted_set}
use Rattle.ix_model.specs.Units.{Units}
use Rattle.ix_answers.specs.declared.walks.Walk.TheVariants.{Incoming, Outgoing, Supertypes, Subtypes}
use Rattle.ix_answers.specs.Facts.{held, listed, includes}
use Rattle.ix_answers.specs.Lookups.{named, coded, listing}
use Rattle.ix_answers.specs.Pattern.{matches}
use Rattle.ix_answers.specs.Walks.{walked}

-- the rows that pass a test
abbrev pub rows_that : (OccRow → Bool) → Units → List Row
rows_that test units = map Occ (sorted_set occurrence_cmp (filter test (rows units)))

-- whether a relation of the row to the USR has one of the roles
abbrev pub is_related : List ℕ → ℕ → OccRow → Bool
is_related usr mask row = list_any (λ relation. bytes_eq relation.usr usr && has_any relation.roles mask) row.relations

-- whether the row is of the USR, and something calls it there
abbrev pub is_called : List ℕ → OccRow → Bool
is_called usr row = bytes_eq row.usr usr && list_any (λ relation. has_any relation.roles CALLED_BY) row.relations

-- whether the row defines or declares something in the path
abbrev pub is_declared_in : List ℕ → OccRow → Bool
is_declared_in path row = bytes_eq row.path path && (has_any row.roles DECLARATION || has_any row.roles DEFINITION)

-- where each of some USRs is defined; where it isn't, where it is declared
abbrev pub definitions_of_each : List (List ℕ) → Units → List Row
definitions_of_each usrs units = map Occ (sorted_set occurrence_cmp (flat_map (λ usr. definitions usr (rows units)) usrs))

-- the USRs of the symbols whose name matches
abbrev pub matched : List ℕ → Bool → Bool → Bool → Units → List (List ℕ)
matched text start end fold units =
    sorted_set text_cmp (map (λ symbol. symbol.usr) (filter (λ symbol. matches text start end fold symbol.name) (held units)))

-- the main files, where they have one, of the units that list the path
abbrev pub mains : List ℕ → Units → List (List ℕ)
mains path units = sorted_set text_cmp (map (λ l. l.main_file) (filter (λ l. bytes_eq l.path path && not (length l.main_file == 0)) (listed units)))

-- what the path includes
abbrev pub included : List ℕ → Units → List (List ℕ)
included path units = sorted_set text_cmp (map (λ i. i.to) (filter (λ i. bytes_eq i.from path) (includes units)))

-- what includes the path
abbrev pub includers : List ℕ → Units → List (List ℕ)
includers path units = sorted_set text_cmp (map (λ i. i.from) (filter (λ i. bytes_eq i.to path) (includes units)))

-- the answer of a query
abbrev pub answer : Query → Units → List Row
answer (ask.Def usr) units = definitions_of usr units
answer (ask.Refs usr) units = rows_that (is_with usr REFERENCE) units
answer (ask.Occ usr roles) units = rows_that (is_with usr roles) units
answer (ask.Rel usr roles) units = rows_that (is_related usr roles) units
answer (ask.Callers usr) units = rows_that (is_called usr) units
answer (ask.Overrides usr) units = rows_that (is_related usr OVERRIDE_OF) units
answer (ask.Name name) units = definitions_of_each (named name units) units
answer (ask.Pattern text start end fold) units = definitions_of_each (matched text start end fold units) units
answer (ask.Symbols path) units = rows_that (is_declared_in path) units
answer (ask.Mains path) units = map Path (mains path units)
answer (ask.Units path) units = map UnitRow (listing path units)
answer (ask.Includes path) units = map Path (included path units)
answer (ask.Includers path) units = map Path (includers path units)
answer (ask.Incoming usr depth) units = walked Incoming usr depth units
answer (ask.Outgoing usr depth) units = walked Outgoing usr depth units
answer (ask.Supertypes usr depth) units = walked Supertypes usr depth units
answer (ask.Subtypes usr depth) units = walked Subtypes usr depth units
answer (ask.Codegen codegen) units = definitions_of_each (coded codegen units) units
