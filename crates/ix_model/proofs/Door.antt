-- What callers may cite: lists that grow by what a function gives of the next element, and sorted sets.
use Rattle.std.proofs.Common.{◌≡◌, ℕ, ◌+◌, ◌<◌, List, [], ◌∷◌, ◌++◌, length, map, get_or, take, Option, Some, None, refl, ap, sym, ◌∙◌, append_assoc}
use Rattle.std.specs.declared.cmp.Ordering.{Ordering}
use Rattle.std.specs.Cmp.{IsTotalOrder}
use Rattle.std.specs.FinMap.{IsAntisymmetric}
use Rattle.std.specs.List.{filter_map, AllByRecursion}
use Rattle.std.specs.Option.{option_to_list}
use Rattle.std.proofs.lemmas.List.{take_more}
use Rattle.std.proofs.lemmas.List.Elements.{filter_map-append}
use Rattle.ix_model.specs.SortedSet.{sorted_set, IsSortedSetOf}
use Rattle.ix_model.proofs.SortedSet.{sorted_set-IsSortedSetOf, sorted_set-All, map-sorted_set}

module _ {X Y : Type 0} (f : X → Option Y) where
  of_one : (x : X) → (o : Option Y) → f x ≡ o → filter_map f (x ∷ []) ≡ option_to_list (f x)
  of_one x None e = rw e refl
  of_one x (Some y) e = rw e refl

  pub filter_map_more : (xs : List X) (i : ℕ) (x : X) → i < length xs → x ≡ get_or xs i x → filter_map f (take (i + 1) xs) ≡ filter_map f (take i xs) ++ option_to_list (f x)
  filter_map_more xs i x within is =
      ap (filter_map f) (take_more xs i x within)
      ∙ (filter_map-append f (take i xs) (get_or xs i x ∷ [])
      ∙ (ap (λ (y : X). filter_map f (take i xs) ++ filter_map f (y ∷ [])) (sym is)
      ∙ ap (λ (ys : List Y). filter_map f (take i xs) ++ ys) (of_one x (f x) refl)))

  -- a list that grows by what f gives of the next element
  pub one_more : (xs : List X) (i : ℕ) (x : X) → i < length xs → x ≡ get_or xs i x → (start before after : List Y) (o : Option Y) → o ≡ f x → before ≡ start ++ filter_map f (take i xs) → after ≡ before ++ option_to_list o → after ≡ start ++ filter_map f (take (i + 1) xs)
  one_more xs i x within is start before after o given so_far grown =
      let more = filter_map_more xs i x within is in
      let grouped = append_assoc start (filter_map f (take i xs)) (option_to_list (f x)) in
      cc

-- ---- sorted sets

-- of a total order in which only equal elements tie
pub is_sorted_set : {X : Type 0} (cmp : X → X → Ordering) → IsTotalOrder cmp → IsAntisymmetric cmp → (xs : List X) → IsSortedSetOf cmp xs (sorted_set cmp xs)
is_sorted_set cmp o same xs = sorted_set-IsSortedSetOf cmp o same xs

pub all_in_sorted_set : {X : Type 0} (cmp : X → X → Ordering) (P : X → Type 0) (xs : List X) → AllByRecursion P xs → AllByRecursion P (sorted_set cmp xs)
all_in_sorted_set cmp P xs all = sorted_set-All cmp P xs all

pub keys_of_sorted_set : {X K : Type 0} (k : X → K) (key_cmp : K → K → Ordering) (xs : List X) → map k (sorted_set (λ x y. key_cmp (k x) (k y)) xs) ≡ sorted_set key_cmp (map k xs)
keys_of_sorted_set k key_cmp xs = map-sorted_set k key_cmp xs
