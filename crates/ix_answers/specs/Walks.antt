-- Walks by levels, from one symbol over its callers, callees, bases or subtypes.
use Rattle.std.specs.Prelude.{ℕ, zero, suc, ◌||◌, not, List, [], ◌∷◌, ◌++◌, map, filter}
use Rattle.std.specs.List.{flat_map}
use Rattle.ix_types.specs.Codes.{has_any}
use Rattle.ix_types.specs.declared.code.TheConstants.Roles.{CALLED_BY, BASE_OF}
use Rattle.ix_types.specs.Row.{text_cmp, edge_cmp}
use Rattle.ix_types.specs.declared.row.OccRow.{OccRow}
use Rattle.ix_types.specs.declared.row.RelRow.{RelRow}
use Rattle.ix_types.specs.declared.row.EdgeRow.{EdgeRow}
use Rattle.ix_types.specs.declared.row.Row.{Row}
use Rattle.ix_types.specs.declared.row.Row.TheVariants.{Edge}
use Rattle.ix_model.specs.Rows.{rows}
use Rattle.ix_model.specs.SortedSet.{sorted_set}
use Rattle.ix_model.specs.Units.{Units}
use Rattle.ix_answers.specs.declared.walks.Walk.{Walk}
use Rattle.ix_answers.specs.declared.walks.Walk.TheVariants.{Incoming, Outgoing, Supertypes, Subtypes}
use Rattle.ix_answers.specs.Lookups.{is_among}

-- the relation that a walk follows
abbrev pub followed : Walk → ℕ
followed Incoming = CALLED_BY
followed Outgoing = CALLED_BY
followed Supertypes = BASE_OF
followed Subtypes = BASE_OF

-- an edge by the occurrence of a row
abbrev pub edge_by : ℕ → List ℕ → List ℕ → OccRow → EdgeRow
edge_by depth from to row = record { depth = depth; from = from; to = to; path = row.path; line = row.line; column = row.column }

-- the edge by a row and one of its relations. The row's symbol is called by the relation's, or is a base of it
abbrev pub edge : Walk → ℕ → OccRow → RelRow → EdgeRow
edge Incoming depth row relation = edge_by depth row.usr relation.usr row
edge Outgoing depth row relation = edge_by depth relation.usr row.usr row
edge Supertypes depth row relation = edge_by depth relation.usr row.usr row
edge Subtypes depth row relation = edge_by depth row.usr relation.usr row

-- the edges of a row
abbrev pub edges_of_row : Walk → ℕ → OccRow → List EdgeRow
edges_of_row walk depth row = map (edge walk depth row) (filter (λ relation. has_any relation.roles (followed walk)) row.relations)

-- the edges of all rows that begin in a level
abbrev pub edges_from : Walk → ℕ → List (List ℕ) → List OccRow → List EdgeRow
edges_from walk depth level all = filter (λ e. is_among level e.from) (flat_map (edges_of_row walk depth) all)

-- where edges lead to, without the USRs of the levels so far
abbrev pub next_level : List (List ℕ) → List (List ℕ) → List EdgeRow → List (List ℕ)
next_level earlier level edges =
    sorted_set text_cmp (filter (λ usr. not (is_among earlier usr || is_among level usr)) (map (λ e. e.to) edges))

-- the levels of a walk up to one of them
pub record Reached : Type 0 where
  -- the USRs of the levels before it
  pub earlier : List (List ℕ)
  -- its own
  pub level : List (List ℕ)

-- the levels up to the first n from the start, which is level 0
abbrev pub reached : Walk → List OccRow → List ℕ → ℕ → Reached
reached walk all usr zero = record { earlier = []; level = usr ∷ [] }
reached walk all usr (suc n) = let before = reached walk all usr n in record {
  earlier = before.earlier ++ before.level;
  level = next_level before.earlier before.level (edges_from walk (suc n) before.level all);
}

-- the edges of the depths up to n: those of a depth begin in the level before
abbrev pub edges_to : Walk → List OccRow → List ℕ → ℕ → List EdgeRow
edges_to walk all usr zero = []
edges_to walk all usr (suc n) = edges_to walk all usr n ++ edges_from walk (suc n) (reached walk all usr n).level all

-- a walk from a USR to a depth
abbrev pub walked : Walk → List ℕ → ℕ → Units → List Row
walked walk usr depth units = map Edge (sorted_set edge_cmp (edges_to walk (rows units) usr depth))
