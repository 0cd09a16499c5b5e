-- What the next edges of a walk are by look-ups and loaded records, and which records these are.
use Rattle.std.specs.Prelude.{ℕ, zero, suc, not, List, [], map, filter, Option, Some, None}
use Rattle.std.specs.List.{flat_map}
use Rattle.ix_types.specs.Row.{text_cmp}
use Rattle.ix_types.specs.declared.row.EdgeRow.{EdgeRow}
use Rattle.ix_record.specs.declared.value.RecordValue.{RecordValue}
use Rattle.ix_model.specs.Rows.{rows_of_record}
use Rattle.ix_model.specs.SortedSet.{sorted_set}
use Rattle.ix_answers.specs.declared.walks.Walk.{Walk}
use Rattle.ix_answers.specs.declared.walks.Walk.TheVariants.{Incoming, Outgoing, Supertypes, Subtypes}
use Rattle.ix_answers.specs.Lookups.{is_among}
use Rattle.ix_answers.specs.Walks.{edges_from}
use Rattle.ix_lookups.specs.Found.{Found}
use Rattle.ix_lookups.specs.Loaded.{Loaded, body_named}

-- the records in which a USR may have edges: callers and subtypes stand where a symbol of it does, callees and bases where a relation to it does
abbrev pub named_for : Walk → Found → List ℕ → List (List ℕ)
named_for Incoming found usr = found.providers usr
named_for Outgoing found usr = found.related usr
named_for Supertypes found usr = found.related usr
named_for Subtypes found usr = found.providers usr

-- the records in which a level may have edges
abbrev pub level_names : Walk → List (List ℕ) → Found → List (List ℕ)
level_names walk level found = sorted_set text_cmp (flat_map (named_for walk found) level)

-- the same where the walk goes from so many more levels; where it goes from none it needs no record
abbrev pub names_while : ℕ → Walk → List (List ℕ) → Found → List (List ℕ)
names_while zero walk level found = []
names_while (suc left) walk level found = level_names walk level found

-- the edges that begin in a level by the rows of a record, if it is loaded: those under each of its paths
abbrev pub edges_at : Walk → ℕ → List (List ℕ) → List (List ℕ) → Option RecordValue → List EdgeRow
edges_at walk depth level paths None = []
edges_at walk depth level paths (Some value) = flat_map (λ path. edges_from walk depth level (rows_of_record path value)) paths

-- the edges that begin in a level by the rows of some loaded records
abbrev pub level_edges : Walk → ℕ → List (List ℕ) → List (List ℕ) → Found → Loaded → List EdgeRow
level_edges walk depth level names found bodies = flat_map (λ name. edges_at walk depth level (found.paths name) (body_named name bodies)) names

-- where edges lead to, sorted and without repeats, but for what was seen
abbrev pub fresh_ends : List (List ℕ) → List EdgeRow → List (List ℕ)
fresh_ends seen edges = sorted_set text_cmp (filter (λ usr. not (is_among seen usr)) (map (λ e. e.to) edges))
