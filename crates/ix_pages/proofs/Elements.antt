-- What holds of each element, by recursion along the list.
use Rattle.std.proofs.Common.{ℕ, zero, suc, ◌<◌, ◌≤◌, List, [], ◌∷◌, ◌++◌, length, map, take, drop, get_or, arith}
use Rattle.std.specs.List.{AllByRecursion, AllWithin}

pub all_append_left : {X : Type 0} (P : X → Type 0) (xs ys : List X) → AllByRecursion P (xs ++ ys) → AllByRecursion P xs
all_append_left P [] ys all = tt
all_append_left P (x ∷ xs) ys all = (all.0, all_append_left P xs ys all.1)

pub all_append_right : {X : Type 0} (P : X → Type 0) (xs ys : List X) → AllByRecursion P (xs ++ ys) → AllByRecursion P ys
all_append_right P [] ys all = all
all_append_right P (x ∷ xs) ys all = all_append_right P xs ys all.1

pub all_append : {X : Type 0} (P : X → Type 0) (xs ys : List X) → AllByRecursion P xs → AllByRecursion P ys → AllByRecursion P (xs ++ ys)
all_append P [] ys front back = back
all_append P (x ∷ xs) ys front back = (front.0, all_append P xs ys front.1 back)

pub all_follow : {X : Type 0} (P Q : X → Type 0) → ((x : X) → P x → Q x) → (xs : List X) → AllByRecursion P xs → AllByRecursion Q xs
all_follow P Q step [] all = tt
all_follow P Q step (x ∷ xs) all = (step x all.0, all_follow P Q step xs all.1)

-- from the elements' values to one at an index
pub all_at : {X Y : Type 0} (f : X → Y) (P : Y → Type 0) (xs : List X) → AllByRecursion P (map f xs) → (k : ℕ) (d : X) → k < length xs → P (f (get_or xs k d))
all_at f P [] all k d within = absurd (omega arith)
all_at f P (x ∷ xs) all zero d within = all.0
all_at f P (x ∷ xs) all (suc k) d within = all_at f P xs all.1 k d (omega arith)

-- from all indices below i to the first i elements
pub all_taken : {X Y : Type 0} (f : X → Y) (P : Y → Type 0) (xs : List X) (i : ℕ) → i ≤ length xs → AllWithin (λ x. P (f x)) xs 0 i → AllByRecursion P (map f (take i xs))
all_taken f P xs zero within all = tt
all_taken f P [] (suc i) within all = absurd (omega arith)
all_taken f P (x ∷ xs) (suc i) within all = (all 0 x (omega arith) (omega arith), all_taken f P xs i (omega arith) (λ k d low high. all (suc k) d (omega arith) (omega arith)))

-- from all indices at or past i to what stands behind the first i elements
pub all_dropped : {X Y : Type 0} (f : X → Y) (P : Y → Type 0) (xs : List X) (i : ℕ) → AllWithin (λ x. P (f x)) xs i (length xs) → AllByRecursion P (map f (drop i xs))
all_dropped f P [] zero all = tt
all_dropped f P [] (suc i) all = tt
all_dropped f P (x ∷ xs) zero all = (all 0 x (omega arith) (omega arith), all_dropped f P xs zero (λ k d low high. all (suc k) d (omega arith) (omega arith)))
all_dropped f P (x ∷ xs) (suc i) all = all_dropped f P xs i (λ k d low high. all (suc k) d (omega arith) (omega arith))
