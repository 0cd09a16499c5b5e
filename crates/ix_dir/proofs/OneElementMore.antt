-- Where the elements of a list with one more stand.
use Rattle.std.proofs.Common.{◌≡◌, ◌⊎◌, inl, inr, ℕ, zero, suc, List, [], ◌∷◌, ◌++◌, length, refl, ap, Some, None}
use Rattle.std.specs.List.{slice_get}

-- an element of a list with one more
pub snoc_cases : {A : Type 0} (xs : List A) (x : A) (i : ℕ) (y : A) → slice_get (xs ++ x ∷ []) i ≡ Some y → (slice_get xs i ≡ Some y) ⊎ ((i ≡ length xs) × (x ≡ y))
snoc_cases [] x zero y h = inr (refl, ap (λ o. elim o [ Some z ↦ z | None ↦ x ]) h)
snoc_cases [] x (suc i) y h = cc
snoc_cases (z ∷ xs) x zero y h = inl h
snoc_cases (z ∷ xs) x (suc i) y h =
    elim (snoc_cases xs x i y h) [
      | inl old ↦ inl old
      | inr new ↦ inr (ap suc new.0, new.1)
    ]

pub snoc_old : {A : Type 0} (xs : List A) (x : A) (i : ℕ) (y : A) → slice_get xs i ≡ Some y → slice_get (xs ++ x ∷ []) i ≡ Some y
snoc_old [] x i y h = cc
snoc_old (z ∷ xs) x zero y h = h
snoc_old (z ∷ xs) x (suc i) y h = snoc_old xs x i y h

pub snoc_last : {A : Type 0} (xs : List A) (x : A) → slice_get (xs ++ x ∷ []) (length xs) ≡ Some x
snoc_last [] x = refl
snoc_last (z ∷ xs) x = snoc_last xs x
