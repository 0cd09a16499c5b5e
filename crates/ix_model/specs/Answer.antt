-- What a query answers over a map of units: a filter of all rows, sorted and without repeats.
use Rattle.std.specs.Prelude.{ℕ, ◌≡◌, ◌&&◌, ◌==◌, ◌⊎◌, if◌then◌else◌, List, length, map, filter, Bool, Contains}
use Rattle.std.specs.Int.{bit_at}
use Rattle.std.specs.Str.{bytes_eq}
use Rattle.ix_types.specs.Codes.{has_any}
use Rattle.ix_types.specs.declared.code.TheConstants.Roles.{DECLARATION, DEFINITION}
use Rattle.ix_types.specs.Row.{occurrence_cmp}
use Rattle.ix_types.specs.declared.row.OccRow.{OccRow}
use Rattle.ix_types.specs.declared.row.Row.{Row}
use Rattle.ix_types.specs.declared.row.Row.TheVariants.{Occ}
use Rattle.ix_model.specs.SortedSet.{sorted_set}
use Rattle.ix_model.specs.Units.{Units}
use Rattle.ix_model.specs.Rows.{rows}

-- whether a row is of a USR and has one of the roles
abbrev pub is_with : List ℕ → ℕ → OccRow → Bool
is_with usr mask row = bytes_eq row.usr usr && has_any row.roles mask

-- the rows of a USR that have one of the roles
abbrev pub rows_with : List ℕ → ℕ → List OccRow → List OccRow
rows_with usr mask all = filter (is_with usr mask) all

-- the definitions of a USR; where all rows have none, its declarations
abbrev pub definitions : List ℕ → List OccRow → List OccRow
definitions usr all = if length (rows_with usr DEFINITION all) == 0 then rows_with usr DECLARATION all else rows_with usr DEFINITION all

-- a row that defines the symbol of a USR: bit 1 of its roles is set
pub record IsDefinition (usr : List ℕ) (row : OccRow) : Type 0 where
  pub of_usr : row.usr ≡ usr
  pub defines : bit_at row.roles 1 ≡ 1

-- a row that declares the symbol of a USR: bit 0 of its roles is set
pub record IsDeclaration (usr : List ℕ) (row : OccRow) : Type 0 where
  pub of_usr : row.usr ≡ usr
  pub declares : bit_at row.roles 0 ≡ 1

-- no row defines the symbol of a USR
abbrev pub HasNoDefinition : List ℕ → List OccRow → Type 0
HasNoDefinition usr all = (row : OccRow) → Contains all row → IsDefinition usr row → ⊥

-- a definition among the rows, or a declaration among rows that have no definition
abbrev pub IsAmongDefinitions : List ℕ → List OccRow → OccRow → Type 0
IsAmongDefinitions usr all row = Contains all row × (IsDefinition usr row ⊎ (HasNoDefinition usr all × IsDeclaration usr row))

-- where a USR is defined in the units; where they don't define it, where it is declared
abbrev pub definitions_of : List ℕ → Units → List Row
definitions_of usr units = map Occ (sorted_set occurrence_cmp (definitions usr (rows units)))
