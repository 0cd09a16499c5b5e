-- The JSON value of a script: each object with all its fields, in the order of their names, and each list with all its items.
use Rattle.std.specs.Prelude.{ℕ, ◌==◌, List, [], map, codes, Bool, Option, unwrap_or}
use Rattle.std.specs.Int.{bit_at}
use Rattle.std.specs.List.{filter}
use Rattle.serde_json.specs.Data.{Data, number, unsigned, boolean, string, array, object, Members, no_members, member}
use Rattle.serde_json.specs.View.{items_of}
use Rattle.ix_types.specs.Codes.{Table, name_of_code, kinds, langs, roles, props}
use Rattle.ix_types.specs.declared.format.Format.{Format}
use Rattle.ix_types.specs.declared.format.Format.TheVariants.{One, Two}
use Rattle.ix_types.specs.declared.row.Query.{Query}
use Rattle.ix_types.specs.declared.row.Query.TheVariants as query
use Rattle.ix_plan.specs.declared.plan.Script.{Script}
use Rattle.ix_plan.specs.declared.plan.Step.{Step}
use Rattle.ix_plan.specs.declared.plan.Step.TheVariants.{Build, Remove, Poll, Refresh, Ask, Release, Collect}
use Rattle.ix_plan.specs.declared.plan.UnitPlan.{UnitPlan}
use Rattle.ix_plan.specs.declared.plan.RecordPlan.{RecordPlan}
use Rattle.ix_plan.specs.declared.plan.FilePlan.{FilePlan}
use Rattle.ix_plan.specs.declared.plan.IncludePlan.{IncludePlan}
use Rattle.ix_plan.specs.declared.plan.SymbolPlan.{SymbolPlan}
use Rattle.ix_plan.specs.declared.plan.OccurrencePlan.{OccurrencePlan}
use Rattle.ix_plan.specs.declared.plan.RelationPlan.{RelationPlan}

abbrev pub number_data : ℕ → Data
number_data n = number (unsigned n)

abbrev pub list_data : {A : Type 0} → (A → Data) → List A → Data
list_data shown xs = array (items_of (map shown xs))

-- the word of a code
abbrev pub word_data : Table → ℕ → Data
word_data table code = string (unwrap_or (name_of_code table code) [])

-- the words of the rows whose bits are set, in the table's order
abbrev pub row_data : ℕ × List ℕ → Data
row_data row = string row.1

abbrev pub words_data : Table → ℕ → Data
words_data table mask = list_data row_data (filter (λ row. bit_at mask row.0 == 1) table)

unfoldable pub file_data : FilePlan → Data
file_data plan = object (member (codes "path") (string plan.path) (member (codes "system") (boolean plan.system) no_members))

unfoldable pub include_data : IncludePlan → Data
include_data plan =
    object (member (codes "from") (string plan.from)
    (member (codes "line") (number_data plan.line)
    (member (codes "to") (string plan.to) no_members)))

unfoldable pub relation_data : RelationPlan → Data
relation_data plan = object (member (codes "roles") (words_data roles plan.roles) (member (codes "usr") (string plan.usr) no_members))

unfoldable pub occurrence_data : OccurrencePlan → Data
occurrence_data plan =
    object (member (codes "col") (number_data plan.col)
    (member (codes "line") (number_data plan.line)
    (member (codes "relations") (list_data relation_data plan.relations)
    (member (codes "roles") (words_data roles plan.roles)
    (member (codes "usr") (string plan.usr) no_members)))))

abbrev pub symbol_members : SymbolPlan → Members
symbol_members plan =
    member (codes "kind") (word_data kinds plan.kind)
    (member (codes "lang") (word_data langs plan.lang)
    (member (codes "name") (string plan.name)
    (member (codes "props") (words_data props plan.props)
    (member (codes "usr") (string plan.usr) no_members))))

-- in format Two with its code generation name
unfoldable pub symbol_data : Format → SymbolPlan → Data
symbol_data One plan = object (symbol_members plan)
symbol_data Two plan = object (member (codes "codegen") (string plan.codegen) (symbol_members plan))

unfoldable pub record_data : RecordPlan → Data
record_data plan =
    object (member (codes "occurrences") (list_data occurrence_data plan.occurrences)
    (member (codes "path") (string plan.path)
    (member (codes "symbols") (list_data (symbol_data plan.format) plan.symbols)
    (member (codes "system") (boolean plan.system) no_members))))

unfoldable pub unit_data : UnitPlan → Data
unit_data plan =
    object (member (codes "files") (list_data file_data plan.files)
    (member (codes "includes") (list_data include_data plan.includes)
    (member (codes "main") (string plan.main)
    (member (codes "module") (string plan.«module»)
    (member (codes "output") (string plan.output)
    (member (codes "records") (list_data record_data plan.records)
    (member (codes "system") (boolean plan.system)
    (member (codes "units") (list_data string plan.units) no_members))))))))

-- the fields of asks
abbrev pub do_data : List ℕ → Members → Members
do_data word rest = member (codes "do") (string word) rest

abbrev pub query_data : List ℕ → Members → Members
query_data word rest = member (codes "query") (string word) rest

abbrev pub usr_ask : List ℕ → List ℕ → Data
usr_ask word usr = object (do_data (codes "ask") (query_data word (member (codes "usr") (string usr) no_members)))

abbrev pub path_ask : List ℕ → List ℕ → Data
path_ask word path = object (do_data (codes "ask") (member (codes "path") (string path) (query_data word no_members)))

abbrev pub roles_ask : List ℕ → List ℕ → ℕ → Data
roles_ask word usr mask = object (do_data (codes "ask") (query_data word (member (codes "roles") (words_data roles mask) (member (codes "usr") (string usr) no_members))))

abbrev pub walk_ask : List ℕ → List ℕ → ℕ → Data
walk_ask word usr depth = object (member (codes "depth") (number_data depth) (do_data (codes "ask") (query_data word (member (codes "usr") (string usr) no_members))))

unfoldable pub ask_data : Query → Data
ask_data (query.Def usr) = usr_ask (codes "def") usr
ask_data (query.Refs usr) = usr_ask (codes "refs") usr
ask_data (query.Occ usr mask) = roles_ask (codes "occ") usr mask
ask_data (query.Rel usr mask) = roles_ask (codes "rel") usr mask
ask_data (query.Callers usr) = usr_ask (codes "callers") usr
ask_data (query.Overrides usr) = usr_ask (codes "overrides") usr
ask_data (query.Name name) = object (do_data (codes "ask") (member (codes "name") (string name) (query_data (codes "name") no_members)))
ask_data (query.Pattern text start end fold) =
    object (do_data (codes "ask") (member (codes "end") (boolean end) (member (codes "fold") (boolean fold)
    (query_data (codes "pattern") (member (codes "start") (boolean start) (member (codes "text") (string text) no_members))))))
ask_data (query.Symbols path) = path_ask (codes "symbols") path
ask_data (query.Mains path) = path_ask (codes "mains") path
ask_data (query.Units path) = path_ask (codes "units") path
ask_data (query.Includes path) = path_ask (codes "includes") path
ask_data (query.Includers path) = path_ask (codes "includers") path
ask_data (query.Incoming usr depth) = walk_ask (codes "incoming") usr depth
ask_data (query.Outgoing usr depth) = walk_ask (codes "outgoing") usr depth
ask_data (query.Supertypes usr depth) = walk_ask (codes "supertypes") usr depth
ask_data (query.Subtypes usr depth) = walk_ask (codes "subtypes") usr depth
ask_data (query.Codegen codegen) = object (member (codes "codegen") (string codegen) (do_data (codes "ask") (query_data (codes "codegen") no_members)))

abbrev pub plain_data : List ℕ → Data
plain_data word = object (do_data word no_members)

unfoldable pub step_data : Step → Data
step_data (Build plan) = object (do_data (codes "build") (member (codes "unit") (unit_data plan) no_members))
step_data (Remove output) = object (do_data (codes "remove") (member (codes "output") (string output) no_members))
step_data Poll = plain_data (codes "poll")
step_data Refresh = plain_data (codes "refresh")
step_data (Ask ask) = ask_data ask
step_data Release = plain_data (codes "release")
step_data Collect = plain_data (codes "collect")

unfoldable pub lane_data : List Step → Data
lane_data lane = list_data step_data lane

abbrev pub format_number : Format → ℕ
format_number One = 1
format_number Two = 2

-- of a script that is of the format
unfoldable pub script_data : Format → Script → Data
script_data format script =
    object (member (codes "format") (number_data (format_number format))
    (member (codes "lanes") (list_data lane_data script.lanes)
    (member (codes "order") (list_data number_data script.order) no_members)))
