-- Paths along the edges of a walk, in a user's words.
use Rattle.std.specs.Prelude.{◌≡◌, ℕ, zero, suc, ◌<◌, List, Contains}
use Rattle.std.specs.Int.{bit_at}
use Rattle.ix_types.specs.declared.row.RelRow.{RelRow}
use Rattle.ix_types.specs.declared.row.OccRow.{OccRow}
use Rattle.ix_types.specs.declared.row.EdgeRow.{EdgeRow}
use Rattle.ix_answers.specs.declared.walks.Walk.{Walk}
use Rattle.ix_answers.specs.declared.walks.Walk.TheVariants.{Incoming, Outgoing, Supertypes, Subtypes}

-- an edge stands at the place of a row
pub record StandsAt (row : OccRow) (e : EdgeRow) : Type 0 where
  pub at_path : row.path ≡ e.path
  pub at_line : row.line ≡ e.line
  pub at_column : row.column ≡ e.column

-- at the edge's place the callee is called by the caller: bit 13 of the relation is set
pub record IsCallAt (all : List OccRow) (callee caller : List ℕ) (e : EdgeRow) : Type 0 where
  pub row : OccRow
  pub of_all : Contains all row
  pub relation : RelRow
  pub has_relation : Contains row.relations relation
  pub of_callee : row.usr ≡ callee
  pub of_caller : relation.usr ≡ caller
  pub is_called : bit_at relation.roles 13 ≡ 1
  pub stands : StandsAt row e

-- at the edge's place the base is a base of the subtype: bit 10 of the relation is set
pub record IsBaseAt (all : List OccRow) (base subtype : List ℕ) (e : EdgeRow) : Type 0 where
  pub row : OccRow
  pub of_all : Contains all row
  pub relation : RelRow
  pub has_relation : Contains row.relations relation
  pub of_base : row.usr ≡ base
  pub of_subtype : relation.usr ≡ subtype
  pub is_base : bit_at relation.roles 10 ≡ 1
  pub stands : StandsAt row e

-- an edge of a walk, whatever its depth: to a caller, to a callee, to a base, to a subtype
abbrev pub IsStep : Walk → List OccRow → EdgeRow → Type 0
IsStep Incoming all e = IsCallAt all e.from e.to e
IsStep Outgoing all e = IsCallAt all e.to e.from e
IsStep Supertypes all e = IsBaseAt all e.to e.from e
IsStep Subtypes all e = IsBaseAt all e.from e.to e

-- a path of n edges from the start to a USR
abbrev pub IsPath : Walk → List OccRow → List ℕ → ℕ → List ℕ → Type 0
IsPath walk all start zero usr = start ≡ usr
IsPath walk all start (suc n) usr = (e : EdgeRow) × IsStep walk all e × IsPath walk all start n e.from × (e.to ≡ usr)

-- an edge of a depth up to one: behind a path of one edge less, than which no shorter one leads to where the edge begins
pub record IsReached (walk : Walk) (all : List OccRow) (start : List ℕ) (depth : ℕ) (e : EdgeRow) : Type 0 where
  pub before : ℕ
  pub within : before < depth
  pub of_depth : e.depth ≡ suc before
  pub step : IsStep walk all e
  pub path : IsPath walk all start before e.from
  pub shortest : (m : ℕ) → m < before → IsPath walk all start m e.from → ⊥

-- the edge the other way round
abbrev pub turned : EdgeRow → EdgeRow
turned e = record e { from = e.to; to = e.from }
