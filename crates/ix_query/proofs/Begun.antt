-- Bytes that are folded where they stand.
use Rattle.std.proofs.Common.{◌≡◌, ℕ, zero, suc, ◌<◌, List, [], ◌∷◌, ◌++◌, length, map, take, drop, get_or, slice_set, refl, ap, arith}

module _ (f : ℕ → ℕ) where
  pub one_folded : (xs : List ℕ) (k : ℕ) → k < length xs → slice_set (map f (take k xs) ++ drop k xs) k (f (get_or xs k 0)) ≡ map f (take (suc k) xs) ++ drop (suc k) xs
  one_folded [] k b = absurd (omega arith)
  one_folded (x ∷ xs) zero b = refl
  one_folded (x ∷ xs) (suc k) b = ap (λ (ys : List ℕ). f x ∷ ys) (one_folded xs k (omega (arith, b)))

  pub not_yet : (xs : List ℕ) (k : ℕ) → k < length xs → get_or (map f (take k xs) ++ drop k xs) k 0 ≡ get_or xs k 0
  not_yet [] k b = absurd (omega arith)
  not_yet (x ∷ xs) zero b = refl
  not_yet (x ∷ xs) (suc k) b = not_yet xs k (omega (arith, b))
