-- The edges of an occurrence, by marks that say which symbols of its record are of a level.
use Rattle.std.specs.Prelude.{ℕ, ◌&&◌, if◌then◌else◌, Bool, false, List, map, Option, Some, None, slice_get}
use Rattle.std.specs.Option.{option_map_or}
use Rattle.ix_types.specs.Codes.{has_any}
use Rattle.ix_types.specs.declared.row.EdgeRow.{EdgeRow}
use Rattle.ix_types.specs.declared.row.RelRow.{RelRow}
use Rattle.ix_record.specs.declared.value.Symbol.{Symbol}
use Rattle.ix_record.specs.declared.value.Relation.{Relation}
use Rattle.ix_record.specs.declared.value.Occurrence.{Occurrence}
use Rattle.ix_model.specs.Rows.{relation_row}
use Rattle.ix_answers.specs.declared.walks.Walk.{Walk}
use Rattle.ix_answers.specs.declared.walks.Walk.TheVariants.{Incoming, Outgoing, Supertypes, Subtypes}
use Rattle.ix_answers.specs.Lookups.{is_among}
use Rattle.ix_answers.specs.Walks.{followed}

-- which symbols are of a level
abbrev pub marks_of : List (List ℕ) → List Symbol → List Bool
marks_of level symbols = map (λ s. is_among level s.usr) symbols

-- whether the symbol at an index is marked
abbrev pub is_marked : List Bool → ℕ → Bool
is_marked marks index = option_map_or (λ mark. mark) (slice_get marks index) false

-- the index of the symbol at which the edge by a relation begins
abbrev pub begins_at : Walk → Occurrence → Relation → ℕ
begins_at Incoming occurrence relation = occurrence.symbol
begins_at Outgoing occurrence relation = relation.symbol
begins_at Supertypes occurrence relation = relation.symbol
begins_at Subtypes occurrence relation = occurrence.symbol

-- an edge at an occurrence
abbrev pub edge_at : ℕ → List ℕ → Occurrence → List ℕ → List ℕ → EdgeRow
edge_at depth path occurrence from to = record { depth = depth; from = from; to = to; path = path; line = occurrence.line; column = occurrence.column }

-- the edge between an occurrence's USR and another to which a relation of it leads
abbrev pub edge_between : Walk → ℕ → List ℕ → Occurrence → List ℕ → List ℕ → EdgeRow
edge_between Incoming depth path occurrence usr other = edge_at depth path occurrence usr other
edge_between Outgoing depth path occurrence usr other = edge_at depth path occurrence other usr
edge_between Supertypes depth path occurrence usr other = edge_at depth path occurrence other usr
edge_between Subtypes depth path occurrence usr other = edge_at depth path occurrence usr other

-- the edge by a relation, if the walk follows it and it begins at a marked symbol
abbrev pub edge_kept : Walk → ℕ → Bool → List ℕ → Occurrence → List ℕ → Option RelRow → Option EdgeRow
edge_kept walk depth mark path occurrence usr None = None
edge_kept walk depth mark path occurrence usr (Some relation) =
    if has_any relation.roles (followed walk) && mark then Some (edge_between walk depth path occurrence usr relation.usr) else None

-- the same of an occurrence of a symbol
abbrev pub edge_found : Walk → ℕ → List Bool → List ℕ → List Symbol → Occurrence → List ℕ → Relation → Option EdgeRow
edge_found walk depth marks path symbols occurrence usr relation =
    edge_kept walk depth (is_marked marks (begins_at walk occurrence relation)) path occurrence usr (relation_row symbols relation)
