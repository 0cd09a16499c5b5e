-- Changes of which each key is less than the next one.
use Rattle.std.proofs.Common.{◌≡◌, ◌↔◌, ℕ, zero, suc, ◌+◌, ◌<◌, Bool, true, false, List, [], ◌∷◌, length, get_or, refl, sym, ap, subst, arith}
use Rattle.std.specs.List.{IsAllAdjacentAnswer, AllAdjacentBelow}
use Rattle.std.specs.declared.cmp.Ordering.{Ordering}
use Rattle.std.specs.declared.cmp.Ordering.TheVariants.{Less}
use Rattle.std.specs.Ordering.{is_lt}
use Rattle.std.specs.Cmp.{IsTotalOrder}
use Rattle.ix_pages.specs.declared.changes.Change.{Change}
use Rattle.ix_pages.specs.Changes.{key_of_change, AreRising}
use Rattle.ix_pages.proofs.Elements.{all_follow}
use Rattle.ix_pages.proofs.Order.{from_lt}

module _ {K V : Type 0} (cmp : K → K → Ordering) where
  adjacent_of_rising : (xs : List (Change K V)) → AreRising cmp xs → (k : ℕ) (d : Change K V) → k + 1 < length xs → cmp (key_of_change (get_or xs k d)) (key_of_change (get_or xs (k + 1) d)) ≡ Less
  adjacent_of_rising [] rising k d within = absurd (omega arith)
  adjacent_of_rising (x ∷ []) rising k d within = absurd (omega arith)
  adjacent_of_rising (x ∷ y ∷ zs) rising zero d within = rising.0.0
  adjacent_of_rising (x ∷ y ∷ zs) rising (suc k) d within =
      let next : suc k + 1 ≡ suc (k + 1) = omega arith in
      subst (λ n. cmp (key_of_change (get_or (x ∷ y ∷ zs) (suc k) d)) (key_of_change (get_or (x ∷ y ∷ zs) n d)) ≡ Less) (sym next) (adjacent_of_rising (y ∷ zs) rising.1 k d (omega arith))

module _ {K V : Type 0} {cmp : K → K → Ordering} (o : IsTotalOrder cmp) where
  rising_of_adjacent : (xs : List (Change K V)) → AllAdjacentBelow (λ x y. true ≡ is_lt (cmp (key_of_change x) (key_of_change y))) xs (length xs) → AreRising cmp xs
  rising_of_adjacent [] adjacent = tt
  rising_of_adjacent (x ∷ []) adjacent = (tt, tt)
  rising_of_adjacent (x ∷ y ∷ zs) adjacent =
      let less : cmp (key_of_change x) (key_of_change y) ≡ Less = from_lt _ (sym (adjacent 0 x (omega arith))) in
      let rest = rising_of_adjacent (y ∷ zs) (λ k d within. let next : suc k + 1 ≡ suc (k + 1) = omega arith in subst (λ n. true ≡ is_lt (cmp (key_of_change (get_or (y ∷ zs) k d)) (key_of_change (get_or (x ∷ y ∷ zs) n d)))) next (adjacent (suc k) d (omega arith))) in
      ((less, all_follow _ _ (λ z up. o.trans (key_of_change x) (key_of_change y) (key_of_change z) less up) zs rest.0), rest)

  pub rising_answer : (xs : List (Change K V)) (r : Bool) → IsAllAdjacentAnswer (λ x y b. b ≡ is_lt (cmp (key_of_change x) (key_of_change y))) xs r → (r ≡ true) ↔ AreRising cmp xs
  rising_answer xs true adjacent = (λ yes. rising_of_adjacent xs adjacent, λ rising. refl)
  rising_answer [] false adjacent = absurd (omega (arith, adjacent.1))
  rising_answer (x ∷ xs) false adjacent =
      (λ yes. absurd (cc), λ rising. let less = ap is_lt (adjacent_of_rising cmp (x ∷ xs) rising adjacent.0 x adjacent.1) in let more = adjacent.2 x in absurd (cc))
