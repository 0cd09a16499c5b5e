-- Lists that are kept in part.
use Rattle.std.proofs.Common.{◌≡◌, Bool, true, false, not, List, [], ◌∷◌, ◌++◌, filter, map, if◌then◌else◌, refl, ◌∙◌, ap}
use Rattle.std.specs.List.{AllByRecursion}
use Rattle.std.proofs.lemmas.List.{append-nil}
use Rattle.std.proofs.lemmas.List.Elements.{filter-append}
use Rattle.ix_pages.proofs.Elements.{all_follow}

pub filter_keeps : {X : Type 0} (p : X → Bool) (xs : List X) → AllByRecursion (λ x. p x ≡ true) xs → filter p xs ≡ xs
filter_keeps p [] all = refl
filter_keeps p (x ∷ xs) all = rw all.0 (ap (λ zs. x ∷ zs) (filter_keeps p xs all.1))

pub filter_drops : {X : Type 0} (p : X → Bool) (xs : List X) → AllByRecursion (λ x. p x ≡ false) xs → filter p xs ≡ []
filter_drops p [] all = refl
filter_drops p (x ∷ xs) all = rw all.0 (filter_drops p xs all.1)

pub all_true : {X : Type 0} (xs : List X) → filter (λ (x : X). true) xs ≡ xs
all_true [] = refl
all_true (x ∷ xs) = ap (λ zs. x ∷ zs) (all_true xs)

pub all_false : {X : Type 0} (xs : List X) → filter (λ (x : X). false) xs ≡ []
all_false [] = refl
all_false (x ∷ xs) = all_false xs

-- from what holds along one image of a list to what holds along another
pub all_mapped : {X Y Z : Type 0} (f : X → Y) (h : X → Z) (P : Y → Type 0) (Q : Z → Type 0) → ((x : X) → P (f x) → Q (h x)) → (xs : List X) → AllByRecursion P (map f xs) → AllByRecursion Q (map h xs)
all_mapped f h P Q step [] all = tt
all_mapped f h P Q step (x ∷ xs) all = (step x all.0, all_mapped f h P Q step xs all.1)

-- a test that is two tests, the first of them made before
module _ {X : Type 0} (p q r : X → Bool) (meet : (x : X) → r x ≡ (if p x then q x else false)) where
  pub filter_both : (xs : List X) → filter r xs ≡ filter q (filter p xs)
  filter_both [] = refl
  filter_both (x ∷ xs) = cases (filter_both xs) (p x) (q x) refl refl
    where
      cases : filter r xs ≡ filter q (filter p xs) → (a b : Bool) → p x ≡ a → q x ≡ b → filter r (x ∷ xs) ≡ filter q (filter p (x ∷ xs))
      cases rest true true pa qb = rw (meet x, pa, qb) (ap (λ zs. x ∷ zs) rest)
      cases rest true false pa qb = rw (meet x, pa, qb) rest
      cases rest false b pa qb = rw (meet x, pa) rest

  pub filter_middle : (xs : List X) → filter p (filter (λ x. not (r x)) xs) ≡ filter (λ x. not (q x)) (filter p xs)
  filter_middle [] = refl
  filter_middle (x ∷ xs) = cases (filter_middle xs) (p x) (q x) refl refl
    where
      cases : filter p (filter (λ x. not (r x)) xs) ≡ filter (λ x. not (q x)) (filter p xs) → (a b : Bool) → p x ≡ a → q x ≡ b → filter p (filter (λ x. not (r x)) (x ∷ xs)) ≡ filter (λ x. not (q x)) (filter p (x ∷ xs))
      cases rest true true pa qb = rw (meet x, pa, qb) rest
      cases rest true false pa qb = rw (meet x, pa, qb) (rw pa (ap (λ zs. x ∷ zs) rest))
      cases rest false b pa qb = rw (meet x, pa) (rw pa rest)

  pub filter_last : (xs : List X) → filter (λ x. not (p x)) (filter (λ x. not (r x)) xs) ≡ filter (λ x. not (p x)) xs
  filter_last [] = refl
  filter_last (x ∷ xs) = cases (filter_last xs) (p x) (q x) refl refl
    where
      cases : filter (λ x. not (p x)) (filter (λ x. not (r x)) xs) ≡ filter (λ x. not (p x)) xs → (a b : Bool) → p x ≡ a → q x ≡ b → filter (λ x. not (p x)) (filter (λ x. not (r x)) (x ∷ xs)) ≡ filter (λ x. not (p x)) (x ∷ xs)
      cases rest true true pa qb = rw (meet x, pa, qb) rest
      cases rest true false pa qb = rw (meet x, pa, qb) (rw pa rest)
      cases rest false b pa qb = rw (meet x, pa) (rw pa (ap (λ zs. x ∷ zs) rest))

pub filter_holds : {X : Type 0} (p : X → Bool) (xs : List X) → AllByRecursion (λ x. p x ≡ true) (filter p xs)
filter_holds p [] = tt
filter_holds p (x ∷ xs) = cases (filter_holds p xs) (p x) refl
  where
    cases : AllByRecursion (λ x. p x ≡ true) (filter p xs) → (b : Bool) → p x ≡ b → AllByRecursion (λ x. p x ≡ true) (if b then x ∷ filter p xs else filter p xs)
    cases rest true test = (test, rest)
    cases rest false test = rest

pub filter_fails : {X : Type 0} (p : X → Bool) (xs : List X) → AllByRecursion (λ x. p x ≡ false) (filter (λ x. not (p x)) xs)
filter_fails p [] = tt
filter_fails p (x ∷ xs) = cases (filter_fails p xs) (p x) refl
  where
    cases : AllByRecursion (λ x. p x ≡ false) (filter (λ x. not (p x)) xs) → (b : Bool) → p x ≡ b → AllByRecursion (λ x. p x ≡ false) (if not b then x ∷ filter (λ x. not (p x)) xs else filter (λ x. not (p x)) xs)
    cases rest true test = rest
    cases rest false test = (test, rest)

-- a list in two parts: a test holds of the first, and fails for the second
module _ {X : Type 0} (p : X → Bool) (xs ys : List X) (yes : AllByRecursion (λ x. p x ≡ true) xs) (other : AllByRecursion (λ x. p x ≡ false) ys) where
  pub filter_front : filter p (xs ++ ys) ≡ xs
  filter_front = filter-append p xs ys ∙ ap (λ zs. zs ++ filter p ys) (filter_keeps p xs yes) ∙ ap (λ zs. xs ++ zs) (filter_drops p ys other) ∙ append-nil xs

  pub filter_back : filter (λ x. not (p x)) (xs ++ ys) ≡ ys
  filter_back =
      filter-append (λ x. not (p x)) xs ys
      ∙ ap (λ zs. zs ++ filter (λ x. not (p x)) ys) (filter_drops (λ x. not (p x)) xs (all_follow _ _ (λ x is. ap not is) xs yes))
      ∙ filter_keeps (λ x. not (p x)) ys (all_follow _ _ (λ x is. ap not is) ys other)
