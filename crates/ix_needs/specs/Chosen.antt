-- What is answered from look-ups and the bodies of the needed records, and which records these are.
use Rattle.std.specs.Prelude.{ℕ, ◌==◌, ◌&&◌, not, Bool, true, false, if◌then◌else◌, List, [], ◌∷◌, length, map, filter, Option, Some, None}
use Rattle.std.specs.List.{flat_map}
use Rattle.std.specs.Str.{bytes_eq}
use Rattle.ix_types.specs.declared.code.TheConstants.Roles.{DECLARATION, DEFINITION, REFERENCE, OVERRIDE_OF}
use Rattle.ix_types.specs.Row.{text_cmp, occurrence_cmp}
use Rattle.ix_types.specs.declared.row.OccRow.{OccRow}
use Rattle.ix_types.specs.declared.row.Query.{Query}
use Rattle.ix_types.specs.declared.row.Query.TheVariants as ask
use Rattle.ix_types.specs.declared.row.Row.{Row}
use Rattle.ix_types.specs.declared.row.Row.TheVariants.{Occ, Path, Unit as UnitRow}
use Rattle.ix_record.specs.declared.value.RecordValue.{RecordValue}
use Rattle.ix_unit.specs.declared.value.Include.{Include}
use Rattle.ix_unit.specs.declared.value.UnitValue.{UnitValue}
use Rattle.ix_model.specs.Answer.{is_with}
use Rattle.ix_model.specs.Rows.{rows_of_record}
use Rattle.ix_model.specs.SortedSet.{sorted_set}
use Rattle.ix_answers.specs.Answers.{is_related, is_called, is_declared_in}
use Rattle.ix_answers.specs.Pattern.{matches}
use Rattle.ix_lookups.specs.Found.{Found, unit}
use Rattle.ix_lookups.specs.Loaded.{Loaded, body_named}

-- the rows of a record, if it is loaded, that pass a test: those under each of its paths
abbrev pub rows_at : (OccRow → Bool) → List (List ℕ) → Option RecordValue → List OccRow
rows_at test paths None = []
rows_at test paths (Some value) = flat_map (λ path. filter test (rows_of_record path value)) paths

-- the rows of loaded records that pass a test
abbrev pub loaded_rows : (OccRow → Bool) → List (List ℕ) → Found → Loaded → List OccRow
loaded_rows test names found bodies = flat_map (λ name. rows_at test (found.paths name) (body_named name bodies)) names

-- the rows of loaded records under one path that pass a test
abbrev pub rows_under : (OccRow → Bool) → List ℕ → List (List ℕ) → Loaded → List OccRow
rows_under test path names bodies = flat_map (λ name. rows_at test (path ∷ []) (body_named name bodies)) names

-- the rows of a USR that have one of the roles
abbrev pub with_role : List ℕ → ℕ → Found → Loaded → List OccRow
with_role usr mask found bodies = loaded_rows (is_with usr mask) (found.providers usr) found bodies

-- the rows with a relation to a USR that has one of the roles
abbrev pub with_relation : List ℕ → ℕ → Found → Loaded → List OccRow
with_relation usr mask found bodies = loaded_rows (is_related usr mask) (found.related usr) found bodies

-- where a USR is defined; where it isn't, where it is declared
abbrev pub defining_rows : List ℕ → Found → Loaded → List OccRow
defining_rows usr found bodies =
    if length (with_role usr DEFINITION found bodies) == 0 then with_role usr DECLARATION found bodies else with_role usr DEFINITION found bodies

-- the rows, sorted and without repeats
abbrev pub sorted_rows : List OccRow → List Row
sorted_rows chosen = map Occ (sorted_set occurrence_cmp chosen)

-- where each of some USRs is defined; where it isn't, where it is declared
abbrev pub defining_each : List (List ℕ) → Found → Loaded → List Row
defining_each usrs found bodies = sorted_rows (flat_map (λ usr. defining_rows usr found bodies) usrs)

-- the USRs of the names that match
abbrev pub matching : List ℕ → Bool → Bool → Bool → Found → List (List ℕ)
matching text start end fold found = sorted_set text_cmp (flat_map (λ name. found.named name) (filter (matches text start end fold) found.names))

-- the main file of a unit, if it has one
abbrev pub main_of : Option UnitValue → List (List ℕ)
main_of None = []
main_of (Some value) = if length value.main_file == 0 then [] else value.main_file ∷ []

-- the main files of the units that list the path
abbrev pub mains_of : List ℕ → Found → List (List ℕ)
mains_of path found = sorted_set text_cmp (flat_map (λ name. main_of (unit name found)) (found.listing path))

-- the includes of the units
abbrev pub includes_of : Found → List Include
includes_of found = flat_map (λ entry. entry.1.includes) found.units

-- what the path includes
abbrev pub included_by : List ℕ → Found → List (List ℕ)
included_by path found = sorted_set text_cmp (map (λ i. i.to) (filter (λ i. bytes_eq i.from path) (includes_of found)))

-- what includes the path
abbrev pub includers_of : List ℕ → Found → List (List ℕ)
includers_of path found = sorted_set text_cmp (map (λ i. i.from) (filter (λ i. bytes_eq i.to path) (includes_of found)))

-- the answer of a query that is no walk
abbrev pub answer_from : Query → Found → Loaded → List Row
answer_from (ask.Def usr) found bodies = sorted_rows (defining_rows usr found bodies)
answer_from (ask.Refs usr) found bodies = sorted_rows (with_role usr REFERENCE found bodies)
answer_from (ask.Occ usr roles) found bodies = sorted_rows (with_role usr roles found bodies)
answer_from (ask.Rel usr roles) found bodies = sorted_rows (with_relation usr roles found bodies)
answer_from (ask.Callers usr) found bodies = sorted_rows (loaded_rows (is_called usr) (found.providers usr) found bodies)
answer_from (ask.Overrides usr) found bodies = sorted_rows (with_relation usr OVERRIDE_OF found bodies)
answer_from (ask.Name name) found bodies = defining_each (found.named name) found bodies
answer_from (ask.Pattern text start end fold) found bodies = defining_each (matching text start end fold found) found bodies
answer_from (ask.Symbols path) found bodies = sorted_rows (rows_under (is_declared_in path) path (found.in_path path) bodies)
answer_from (ask.Mains path) found bodies = map Path (mains_of path found)
answer_from (ask.Units path) found bodies = map UnitRow (found.listing path)
answer_from (ask.Includes path) found bodies = map Path (included_by path found)
answer_from (ask.Includers path) found bodies = map Path (includers_of path found)
answer_from (ask.Codegen codegen) found bodies = defining_each (found.coded codegen) found bodies
answer_from (ask.Incoming usr depth) found bodies = []
answer_from (ask.Outgoing usr depth) found bodies = []
answer_from (ask.Supertypes usr depth) found bodies = []
answer_from (ask.Subtypes usr depth) found bodies = []

-- the records that hold a symbol of one of the USRs
abbrev pub holding : List (List ℕ) → Found → List (List ℕ)
holding usrs found = sorted_set text_cmp (flat_map (λ usr. found.providers usr) usrs)

-- the records that a query needs that is no walk
abbrev pub needed_from : Query → Found → List (List ℕ)
needed_from (ask.Def usr) found = found.providers usr
needed_from (ask.Refs usr) found = found.providers usr
needed_from (ask.Occ usr roles) found = found.providers usr
needed_from (ask.Rel usr roles) found = found.related usr
needed_from (ask.Callers usr) found = found.providers usr
needed_from (ask.Overrides usr) found = found.related usr
needed_from (ask.Name name) found = holding (found.named name) found
needed_from (ask.Pattern text start end fold) found = holding (matching text start end fold found) found
needed_from (ask.Symbols path) found = found.in_path path
needed_from (ask.Codegen codegen) found = holding (found.coded codegen) found
needed_from (ask.Mains path) found = []
needed_from (ask.Units path) found = []
needed_from (ask.Includes path) found = []
needed_from (ask.Includers path) found = []
needed_from (ask.Incoming usr depth) found = []
needed_from (ask.Outgoing usr depth) found = []
needed_from (ask.Supertypes usr depth) found = []
needed_from (ask.Subtypes usr depth) found = []
