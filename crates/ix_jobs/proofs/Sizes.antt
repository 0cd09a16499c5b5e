-- Sorted sets are no longer than their lists, and what holds of each element holds of each one of the set.
use Rattle.std.proofs.Common.{◌≡◌, suc, ◌≤◌, ◌+◌, List, [], ◌∷◌, length, map, fold, All, arith, refl}
use Rattle.std.specs.declared.cmp.Ordering.{Ordering}
use Rattle.std.specs.declared.cmp.Ordering.TheVariants.{Less, Equal, Greater}
use Rattle.std.specs.Ordering.{match_ordering}
use Rattle.std.specs.List.{AllByRecursion}
use Rattle.std.proofs.lemmas.List.Elements.{All-from_recursion}
use Rattle.ix_model.specs.SortedSet.{add_once, sorted_set}
use Rattle.ix_model.proofs.Door.{all_in_sorted_set}

module _ {X : Type 0} (cmp : X → X → Ordering) where
  one_more : (x : X) (ys : List X) → length (add_once cmp x ys) ≤ suc (length ys)
  one_more x [] = omega arith
  one_more x (y ∷ ys) =
      let behind = one_more x ys in
      elim (cmp x y) as (λ r. length (match_ordering r (x ∷ y ∷ ys) (y ∷ ys) (y ∷ add_once cmp x ys)) ≤ suc (suc (length ys))) [
        | Less ↦ omega arith
        | Equal ↦ omega arith
        | Greater ↦ omega (arith, behind)
      ]

  all_more : (xs set : List X) → length (fold (λ set x. add_once cmp x set) set xs) ≤ length set + length xs
  all_more [] set = omega arith
  all_more (x ∷ xs) set =
      let one = one_more x set in
      let rest = all_more xs (add_once cmp x set) in
      omega (arith, one, rest)

  pub no_longer : (xs : List X) → length (sorted_set cmp xs) ≤ length xs
  no_longer xs = let more : length (sorted_set cmp xs) ≤ 0 + length xs = all_more xs [] in omega (arith, more)

pub mapped_length : {A B : Type 0} (f : A → B) (xs : List A) → length (map f xs) ≡ length xs
mapped_length f [] = refl
mapped_length f (x ∷ xs) = let rest = mapped_length f xs in omega (arith, rest)

pub each_mapped : {A B : Type 0} (f : A → B) (P : A → Type 0) (Q : B → Type 0) → ((a : A) → P a → Q (f a)) → (xs : List A) → AllByRecursion P xs → AllByRecursion Q (map f xs)
each_mapped f P Q g [] a = tt
each_mapped f P Q g (x ∷ xs) a = (g x a.0, each_mapped f P Q g xs a.1)

-- the set of what each element is made into
pub each_in_set : {A B : Type 0} (f : A → B) (cmp : B → B → Ordering) (P : A → Type 0) (Q : B → Type 0) → ((a : A) → P a → Q (f a)) → (xs : List A) → AllByRecursion P xs → All Q (sorted_set cmp (map f xs))
each_in_set f cmp P Q g xs a = All-from_recursion Q (sorted_set cmp (map f xs)) (all_in_sorted_set cmp Q (map f xs) (each_mapped f P Q g xs a))

pub set_shorter : {A B : Type 0} (f : A → B) (cmp : B → B → Ordering) (xs : List A) → length (sorted_set cmp (map f xs)) ≤ length xs
set_shorter f cmp xs =
    let one = no_longer cmp (map f xs) in
    let two = mapped_length f xs in
    omega (arith, one, two)
