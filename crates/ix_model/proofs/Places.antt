-- Where an element belongs among sorted ones: a search from the front.
use Rattle.std.proofs.Common.{◌≡◌, ℕ, List, ◌++◌, take, drop, Ordering}
use Rattle.ix_model.specs.SortedSet.{add_once}

-- x comes behind the first i elements
abbrev pub ComesBehind : {X : Type 0} → (X → X → Ordering) → X → List X → ℕ → Type 0
ComesBehind cmp x xs i = add_once cmp x xs ≡ take i xs ++ add_once cmp x (drop i xs)
