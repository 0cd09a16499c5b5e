-- Lists element by element.
use Rattle.std.proofs.Common.{◌≡◌, ◌∙◌, ℕ, zero, suc, ◌+◌, List, [], ◌∷◌, ◌++◌, Option, Some, IfSome, length, map, slice_get, refl, ap, subst, arith}
use Rattle.std.specs.List.{AllByRecursion, enumerate_from}

module _ {X : Type 0} (P : X → Type 0) where
  pub all_push : (xs : List X) (y : X) → AllByRecursion P xs → P y → AllByRecursion P (xs ++ y ∷ [])
  all_push [] y all more = (more, tt)
  all_push (x ∷ xs) y all more = (all.0, all_push xs y all.1 more)

  pub all_front : (xs : List X) (y : X) → AllByRecursion P (xs ++ y ∷ []) → AllByRecursion P xs
  all_front [] y all = tt
  all_front (x ∷ xs) y all = (all.0, all_front xs y all.1)

  pub all_last : (xs : List X) (y : X) → AllByRecursion P (xs ++ y ∷ []) → P y
  all_last [] y all = all.0
  all_last (x ∷ xs) y all = all_last xs y all.1

  pub all_each : (xs : List X) → ((k : ℕ) (x : X) → slice_get xs k ≡ Some x → P x) → AllByRecursion P xs
  all_each [] each = tt
  all_each (x ∷ xs) each = (each 0 x refl, all_each xs (λ k y there. each (suc k) y there))

  pub all_there : (xs : List X) (k : ℕ) → AllByRecursion P xs → IfSome (slice_get xs k) P
  all_there [] k all = tt
  all_there (x ∷ xs) zero all = all.0
  all_there (x ∷ xs) (suc k) all = all_there xs k all.1

  pub at_place : (xs : List X) (k : ℕ) (x : X) → AllByRecursion P xs → slice_get xs k ≡ Some x → P x
  at_place xs k x all there = subst (λ (o : Option X). IfSome o P) there (all_there xs k all)

pub all_lift : {X : Type 0} (P Q : X → Type 0) → ((x : X) → P x → Q x) → (xs : List X) → AllByRecursion P xs → AllByRecursion Q xs
all_lift P Q leads [] all = tt
all_lift P Q leads (x ∷ xs) all = (leads x all.0, all_lift P Q leads xs all.1)

-- two lists of one length whose elements at each place have something in common
module _ {X Y : Type 0} where
  pub all_beside : (P : Y → Type 0) (xs : List X) (ys : List Y) → length ys ≡ length xs → ((k : ℕ) (x : X) (y : Y) → slice_get xs k ≡ Some x → slice_get ys k ≡ Some y → P y) → AllByRecursion P ys
  all_beside P xs [] same each = tt
  all_beside P [] (y ∷ ys) same each = absurd (omega (arith, same))
  all_beside P (x ∷ xs) (y ∷ ys) same each = (each 0 x y refl refl, all_beside P xs ys (omega (arith, same)) (λ k a b. each (suc k) a b))

  pub map_beside : {Z : Type 0} (f : Y → Z) (g : ℕ × X → Z) (n : ℕ) (xs : List X) (ys : List Y) → length ys ≡ length xs
      → ((k : ℕ) (x : X) (y : Y) → slice_get xs k ≡ Some x → slice_get ys k ≡ Some y → f y ≡ g (n + k, x)) → map f ys ≡ map g (enumerate_from n xs)
  map_beside f g n [] [] same each = refl
  map_beside f g n [] (y ∷ ys) same each = absurd (omega (arith, same))
  map_beside f g n (x ∷ xs) [] same each = absurd (omega (arith, same))
  map_beside f g n (x ∷ xs) (y ∷ ys) same each =
      let here : n + 0 ≡ n = omega arith in
      let first : f y ≡ g (n, x) = each 0 x y refl refl ∙ ap (λ (k : ℕ). g (k, x)) here in
      let rest : map f ys ≡ map g (enumerate_from (n + 1) xs) = map_beside f g (n + 1) xs ys (omega (arith, same)) (λ k a b left right.
      let there : n + suc k ≡ n + 1 + k = omega arith in
      each (suc k) a b left right ∙ ap (λ (j : ℕ). g (j, a)) there) in
      λ i. first i ∷ rest i
