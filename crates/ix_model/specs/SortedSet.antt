-- The sorted list without repeats of a list.
use Rattle.std.specs.Prelude.{◌↔◌, List, [], ◌∷◌, Contains}
use Rattle.std.specs.declared.cmp.Ordering.{Ordering}
use Rattle.std.specs.Ordering.{match_ordering}
use Rattle.std.specs.List.{fold}
use Rattle.std.specs.List.Sorted.{IsStrictlySortedBy}

-- the sorted list, with x at its place unless it is there
abbrev pub add_once : {X : Type 0} → (X → X → Ordering) → X → List X → List X
add_once cmp x [] = x ∷ []
add_once cmp x (y ∷ ys) = match_ordering (cmp x y) (x ∷ y ∷ ys) (y ∷ ys) (y ∷ add_once cmp x ys)

-- the list, sorted and without repeats
abbrev pub sorted_set : {X : Type 0} → (X → X → Ordering) → List X → List X
sorted_set cmp xs = fold (λ set x. add_once cmp x set) [] xs

-- ys rises strictly, and has the elements of xs and no others
pub record IsSortedSetOf {X : Type 0} (cmp : X → X → Ordering) (xs ys : List X) : Type 0 where
  pub rises : IsStrictlySortedBy cmp ys
  pub same : (x : X) → Contains ys x ↔ Contains xs x
