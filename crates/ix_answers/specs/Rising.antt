-- What it is for an answer to be sorted, and for a need to come next.
use Rattle.std.specs.Prelude.{◌≡◌, ℕ, ◌⊎◌, List, map, Contains}
use Rattle.std.specs.declared.cmp.Ordering.{Ordering}
use Rattle.std.specs.declared.cmp.Ordering.TheVariants.{Less}
use Rattle.std.specs.List.Sorted.{IsStrictlySortedBy}
use Rattle.ix_types.specs.Row.{text_cmp, occurrence_cmp, edge_cmp}
use Rattle.ix_types.specs.declared.row.Row.{Row}
use Rattle.ix_types.specs.declared.row.Row.TheVariants.{Occ, Path, Unit as UnitRow, Edge}

-- the rows are made of items that rise strictly, so none stands twice
pub record RisesAs {X : Type 0} (made : X → Row) (cmp : X → X → Ordering) (answer : List Row) : Type 0 where
  pub items : List X
  pub are : answer ≡ map made items
  pub rises : IsStrictlySortedBy cmp items

-- the rows are of one kind, sorted and without repeats
abbrev pub IsSortedAnswer : List Row → Type 0
IsSortedAnswer answer =
    RisesAs Occ occurrence_cmp answer ⊎ (RisesAs Path text_cmp answer ⊎ (RisesAs UnitRow text_cmp answer ⊎ RisesAs Edge edge_cmp answer))

-- all of the names are loaded
abbrev pub AreLoaded : List (List ℕ) → List (List ℕ) → Type 0
AreLoaded loaded names = (name : List ℕ) → Contains names name → Contains loaded name

-- the one text comes before the other
abbrev pub IsLess : List ℕ → List ℕ → Type 0
IsLess first second = text_cmp first second ≡ Less

-- the name is among the names and isn't loaded, and every lesser one of them is loaded
pub record IsLeastLacking (loaded names : List (List ℕ)) (name : List ℕ) : Type 0 where
  pub is_needed : Contains names name
  pub is_lacking : Contains loaded name → ⊥
  pub is_least : (other : List ℕ) → Contains names other → IsLess other name → Contains loaded other
