-- The place at which a partition changes is the number of elements before it.
use Rattle.std.proofs.Common.{◌≡◌, ℕ, zero, suc, ◌≤◌, Bool, true, false, cond, List, [], ◌∷◌, length, filter, refl, sym, ap, ◌∙◌, arith, slice_index_or}
use Rattle.std.specs.declared.cmp.Ordering.{Ordering}
use Rattle.std.specs.declared.cmp.Ordering.TheVariants.{Less, Equal, Greater}
use Rattle.std.specs.Ordering.{is_lt, ordering_index}
use Rattle.std.specs.List.{AllWithin}
use Rattle.std.specs.List.Sorted.{IsSorted, IsPartitionPoint, IsPartitionedBy}
use Rattle.std.proofs.lemmas.List.Sorted.{searchable_from_sorted, IsPartitionedBy-ltb}
use Rattle.std.proofs.lemmas.Cmp.{nat_list_cmp_total}
use Rattle.std.proofs.Common.{ltb}
use Rattle.ix_types.specs.Row.{text_cmp}
use Rattle.ix_record.specs.declared.value.Symbol.{Symbol}
use Rattle.ix_record.specs.Order.{symbol_cmp}

module _ {X : Type 0} (p : X → Bool) where
  tail : (P : X → Type 0) (x : X) (xs : List X) (a b : ℕ) → AllWithin P (x ∷ xs) (suc a) (suc b) → AllWithin P xs a b
  tail P x xs a b h k d low high = h (suc k) d (omega (arith, low)) (omega (arith, high))

  none : (xs : List X) → AllWithin (λ y. p y ≡ false) xs 0 (length xs) → length (filter p xs) ≡ 0
  none [] h = refl
  none (x ∷ xs) h =
      ap (λ (b : Bool). length (cond b (x ∷ filter p xs) (filter p xs))) (h 0 x (omega arith) (omega arith))
      ∙ none xs (λ k d low high. h (suc k) d (omega arith) (omega (arith, high)))

  pub counted : (xs : List X) (i : ℕ) → i ≤ length xs → IsPartitionPoint (λ y. p y ≡ true) (λ y. p y ≡ false) xs i → length (filter p xs) ≡ i
  counted [] zero within point = refl
  counted [] (suc i) within point = absurd (omega (arith, within))
  counted (x ∷ xs) zero within point = none (x ∷ xs) point.1
  counted (x ∷ xs) (suc i) within point =
      ap (λ (b : Bool). length (cond b (x ∷ filter p xs) (filter p xs))) (point.0 0 x (omega arith) (omega arith))
      ∙ ap suc (counted xs i (omega (arith, within))
      (tail (λ y. p y ≡ true) x xs 0 i (λ k d low high. point.0 k d (omega arith) high), tail (λ y. p y ≡ false) x xs i (length xs) point.1))

first_index : (o : Ordering) → ltb (ordering_index o) 1 ≡ is_lt o
first_index Less = refl
first_index Equal = refl
first_index Greater = refl

-- symbols that rise by USR are parted by a USR
pub parted : (symbols : List Symbol) (usr : List ℕ) → IsSorted symbol_cmp symbols → IsPartitionedBy (λ s. is_lt (text_cmp s.usr usr)) symbols
parted symbols usr rises i j d order within before =
    let by = IsPartitionedBy-ltb (λ (s : Symbol). ordering_index (text_cmp s.usr usr)) symbols 1 (searchable_from_sorted nat_list_cmp_total (λ (s : Symbol). s.usr) symbols usr rises) in
    sym (first_index (text_cmp (slice_index_or symbols i d).usr usr)) ∙ by i j d order within (first_index (text_cmp (slice_index_or symbols j d).usr usr) ∙ before)
