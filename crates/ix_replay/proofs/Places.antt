-- One element of many, and the others.
use Rattle.std.proofs.Common.{◌≡◌, ◌≢◌, ◌⊎◌, inl, inr, ℕ, zero, suc, List, [], ◌∷◌, length, set, slice_get, Option, Some, None, IfSome, refl, sym, ap, ◌∙◌, subst, arith}
use Rattle.std.specs.List.{AllByRecursion}
use Rattle.std.proofs.lemmas.Bool.{cases_eq}
use Rattle.std.proofs.lemmas.Option.{same_Some}

pub all_set : {X : Type 0} (P : X → Type 0) (xs : List X) (place : ℕ) (x : X) → AllByRecursion P xs → P x → AllByRecursion P (set xs place x)
all_set P [] place x all p = tt
all_set P (y ∷ xs) zero x all p = (p, all.1)
all_set P (y ∷ xs) (suc place) x all p = (all.0, all_set P xs place x all.1 p)

pub all_at : {X : Type 0} (P : X → Type 0) (xs : List X) (place : ℕ) (x : X) → slice_get xs place ≡ Some x → AllByRecursion P xs → P x
all_at P [] place x at all = absurd (cc)
all_at P (y ∷ xs) zero x at all = subst P (same_Some y x at) all.0
all_at P (y ∷ xs) (suc place) x at all = all_at P xs place x at all.1

pub set_own : {X : Type 0} (xs : List X) (place : ℕ) (old x : X) → slice_get xs place ≡ Some old → slice_get (set xs place x) place ≡ Some x
set_own [] place old x at = absurd (cc)
set_own (y ∷ xs) zero old x at = refl
set_own (y ∷ xs) (suc place) old x at = set_own xs place old x at

pub set_other : {X : Type 0} (xs : List X) (place other : ℕ) (x : X) → place ≢ other → slice_get (set xs place x) other ≡ slice_get xs other
set_other [] place other x apart = refl
set_other (y ∷ xs) zero zero x apart = absurd (apart refl)
set_other (y ∷ xs) zero (suc other) x apart = refl
set_other (y ∷ xs) (suc place) zero x apart = refl
set_other (y ∷ xs) (suc place) (suc other) x apart = set_other xs place other x (λ e. apart (ap suc e))

-- of two lists of one length, where one has an element there the other has one
pub there_too : {X Y : Type 0} (xs : List X) (ys : List Y) (place : ℕ) (x : X) → length ys ≡ length xs → slice_get xs place ≡ Some x → (y : Y) × (slice_get ys place ≡ Some y)
there_too [] ys place x same at = absurd (cc)
there_too (a ∷ xs) [] place x same at = absurd (omega (arith, same))
there_too (a ∷ xs) (y ∷ ys) zero x same at = (y, refl)
there_too (a ∷ xs) (y ∷ ys) (suc place) x same at = there_too xs ys place x (omega (arith, same)) at

-- what holds where there is one holds on where there still is one
pub on_told : {X : Type 0} (P Q : Type 0) → (P → Q) → (o now : Option X) → (o ≡ None → now ≡ None) → IfSome o (λ _. P) → IfSome now (λ _. Q)
on_told P Q goes o None none p = tt
on_told P Q goes None (Some y) none p = absurd (let is : Some y ≡ None = none refl in cc)
on_told P Q goes (Some x) (Some y) none p = goes p

by_place : {X Y : Type 0} (P : ℕ → X → Y → Type 0) (xs : List X) (ys : List Y) (place : ℕ) (x : X) (old y : Y) → slice_get xs place ≡ Some x → slice_get ys place ≡ Some old → P place x y
    → ((other : ℕ) (x' : X) (y' : Y) → place ≢ other → slice_get xs other ≡ Some x' → slice_get ys other ≡ Some y' → P other x' y')
    → (other : ℕ) (x' : X) (y' : Y) → (place ≡ other) ⊎ (place ≢ other) → slice_get xs other ≡ Some x' → slice_get (set ys place y) other ≡ Some y' → P other x' y'
by_place P xs ys place x old y there sat own others other x' y' (inl same) at now =
    let x_is : x ≡ x' = same_Some x x' (sym there ∙ (ap (λ (i : ℕ). slice_get xs i) same ∙ at)) in
    let y_is : y ≡ y' = same_Some y y' (sym (set_own ys place old y sat) ∙ (ap (λ (i : ℕ). slice_get (set ys place y) i) same ∙ now)) in
    subst (λ (i : ℕ). P i x' y') same (subst (λ b. P place x' b) y_is (subst (λ a. P place a y) x_is own))
by_place P xs ys place x old y there sat own others other x' y' (inr apart) at now =
    others other x' y' apart at (sym (set_other ys place other y apart) ∙ now)

-- what holds of the one that is new, and of each other one, holds of each
pub each_place : {X Y : Type 0} (P : ℕ → X → Y → Type 0) (xs : List X) (ys : List Y) (place : ℕ) (x : X) (old y : Y) → slice_get xs place ≡ Some x → slice_get ys place ≡ Some old → P place x y
    → ((other : ℕ) (x' : X) (y' : Y) → place ≢ other → slice_get xs other ≡ Some x' → slice_get ys other ≡ Some y' → P other x' y')
    → (other : ℕ) (x' : X) (y' : Y) → slice_get xs other ≡ Some x' → slice_get (set ys place y) other ≡ Some y' → P other x' y'
each_place P xs ys place x old y there sat own others other x' y' at now = by_place P xs ys place x old y there sat own others other x' y' (cases_eq place other) at now
