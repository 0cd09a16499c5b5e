-- Lists, and look-ups in lists of pairs.
use Rattle.std.proofs.Common.{◌≡◌, ℕ, zero, suc, Bool, true, false, cond, ◌||◌, List, [], ◌∷◌, map, slice_get, slice_index_or, Option, Some, None, option_map, refl, ap, subst, ◌∙◌, arith, Contains}
use Rattle.std.specs.List.{AllByRecursion, list_any}
use Rattle.std.specs.Map.{lookup}
use Rattle.std.specs.BTreeMap.{is_at}
use Rattle.std.proofs.lemmas.Option.{same_Some, slice_get-get_or}
use Rattle.ix_types.specs.Row.{text_cmp}

-- what holds of each value holds of the one that is found
pub found_passes : {X : Type 0} (P : X → Type 0) (name : List ℕ) (entries : List (List ℕ × X)) (x : X) → AllByRecursion (λ (e : List ℕ × X). P e.1) entries → lookup (is_at (text_cmp name)) entries ≡ Some x → P x
found_passes P name [] x all is = absurd (cc)
found_passes P name (e ∷ rest) x all is =
    (elim (is_at (text_cmp name) e.0) as (λ b. cond b (Some e.1) (lookup (is_at (text_cmp name)) rest) ≡ Some x → P x) [
      | true ↦ λ h. subst P (same_Some e.1 x h) all.0
      | false ↦ λ h. found_passes P name rest x all.1 h
    ]) is

or_true : (b : Bool) → (b || true) ≡ true
or_true true = refl
or_true false = refl

-- a test that the found value passes is passed by one of them
pub found_any : {X : Type 0} (test : X → Bool) (name : List ℕ) (entries : List (List ℕ × X)) (x : X) → lookup (is_at (text_cmp name)) entries ≡ Some x → test x ≡ true → list_any (λ (e : List ℕ × X). test e.1) entries ≡ true
found_any test name [] x is passes = absurd (cc)
found_any test name (e ∷ rest) x is passes =
    (elim (is_at (text_cmp name) e.0) as (λ b. cond b (Some e.1) (lookup (is_at (text_cmp name)) rest) ≡ Some x → (test e.1 || list_any (λ (f : List ℕ × _). test f.1) rest) ≡ true) [
      | true ↦ λ h. ap (λ b. b || list_any (λ (f : List ℕ × _). test f.1) rest) (ap test (same_Some e.1 x h) ∙ passes)
      | false ↦ λ h. ap (λ b. test e.1 || b) (found_any test name rest x h passes) ∙ or_true (test e.1)
    ]) is

pub any_at : {X : Type 0} (test : X → Bool) (xs : List X) (place : ℕ) (x : X) → slice_get xs place ≡ Some x → test x ≡ true → list_any test xs ≡ true
any_at test [] place x at passes = absurd (cc)
any_at test (y ∷ xs) zero x at passes = ap (λ b. b || list_any test xs) (ap test (same_Some y x at) ∙ passes)
any_at test (y ∷ xs) (suc place) x at passes = ap (λ b. test y || b) (any_at test xs place x at passes) ∙ or_true (test y)

-- where an element stands
pub place_of : {X : Type 0} (xs : List X) (x : X) → Contains xs x → (place : ℕ) × (slice_get xs place ≡ Some x)
place_of xs x there = (there.0, slice_get-get_or xs there.0 x there.1 ∙ ap Some there.2)

-- an element stands in a longer list too
pub behind : {X : Type 0} (y : X) (xs : List X) (x : X) → Contains xs x → Contains (y ∷ xs) x
behind y xs x there =
    let within = there.1 in
    (suc there.0, omega (arith, within), there.2)

pub at_front : {X : Type 0} (x : X) (xs : List X) → Contains (x ∷ xs) x
at_front x xs = (0, omega arith, refl)

-- ---- by lane

pub lane_of_map : {X Y : Type 0} (f : X → Y) (xs : List (Option X)) (lane : ℕ) → slice_index_or (map (option_map f) xs) lane None ≡ option_map f (slice_index_or xs lane None)
lane_of_map f [] zero = refl
lane_of_map f [] (suc lane) = refl
lane_of_map f (o ∷ xs) zero = refl
lane_of_map f (o ∷ xs) (suc lane) = lane_of_map f xs lane

-- ---- options

pub options_alike : {X Y Z : Type 0} (f : X → Y) (g : Y → Z) (h : X → Z) → ((x : X) → g (f x) ≡ h x) → (o : Option X) → option_map g (option_map f o) ≡ option_map h o
options_alike f g h same None = refl
options_alike f g h same (Some x) = ap Some (same x)

pub lists_alike : {X Y Z : Type 0} (f : X → Y) (g : Y → Z) (h : X → Z) → ((x : X) → g (f x) ≡ h x) → (xs : List (Option X)) → map (option_map g) (map (option_map f) xs) ≡ map (option_map h) xs
lists_alike f g h same [] = refl
lists_alike f g h same (o ∷ xs) = ap (λ p. p ∷ map (option_map g) (map (option_map f) xs)) (options_alike f g h same o) ∙ ap (λ rest. option_map h o ∷ rest) (lists_alike f g h same xs)
