-- Pairs that rise, and a list of them in two parts.
use Rattle.std.proofs.Common.{◌≡◌, zero, suc, true, false, List, [], ◌∷◌, ◌++◌, map, if◌then◌else◌, refl, ap, Some, None, arith}
use Rattle.std.specs.List.{AllByRecursion}
use Rattle.std.specs.List.Sorted.{IsNonDecreasingBy}
use Rattle.std.specs.declared.cmp.Ordering.{Ordering}
use Rattle.std.specs.declared.cmp.Ordering.TheVariants.{Less, Equal, Greater}
use Rattle.std.specs.Ordering.{ordering_index, is_lt, is_eq, match_ordering}
use Rattle.std.specs.Cmp.{IsTotalOrder}
use Rattle.ix_pages.specs.Pairs.{is_before, IsRising, look_up, with_pair, without_key, from_key}
use Rattle.ix_pages.proofs.Elements.{all_append_left, all_append_right, all_follow, all_at}
use Rattle.ix_pages.proofs.Order.{index_rises, greater_of, from_lt}

module _ {K V : Type 0} (cmp : K → K → Ordering) where
  pub rising_left : (xs ys : List (K × V)) → IsRising cmp (xs ++ ys) → IsRising cmp xs
  rising_left [] ys rising = tt
  rising_left (x ∷ xs) ys rising = (all_append_left _ xs ys rising.0, rising_left xs ys rising.1)

  pub rising_right : (xs ys : List (K × V)) → IsRising cmp (xs ++ ys) → IsRising cmp ys
  rising_right [] ys rising = rising
  rising_right (x ∷ xs) ys rising = rising_right xs ys rising.1

  -- each pair in front is less than one behind
  pub each_before : (xs : List (K × V)) (y : K × V) (ys : List (K × V)) → IsRising cmp (xs ++ y ∷ ys) → AllByRecursion (λ x. cmp x.0 y.0 ≡ Less) xs
  each_before [] y ys rising = tt
  each_before (x ∷ xs) y ys rising = ((all_append_right _ xs (y ∷ ys) rising.0).0, each_before xs y ys rising.1)

  -- a test of two parts, where the key is before the second
  pub is_before_left : (key : K) (xs ys : List (K × V)) → is_before cmp key ys ≡ true → is_before cmp key (xs ++ ys) ≡ is_before cmp key xs
  is_before_left key [] ys before = before
  is_before_left key (x ∷ xs) ys before = refl

module _ {K V : Type 0} {cmp : K → K → Ordering} (o : IsTotalOrder cmp) where
  -- the comparisons of rising pairs with a key rise
  pub comparisons_rise : {X : Type 0} (pair : X → K × V) (key : K) (es : List X) → IsRising cmp (map pair es) → IsNonDecreasingBy (λ e. ordering_index (cmp (pair e).0 key)) es
  comparisons_rise pair key [] rising i j d up within = absurd (omega arith)
  comparisons_rise pair key (e ∷ es) rising zero zero d up within = omega arith
  comparisons_rise pair key (e ∷ es) rising zero (suc j) d up within = index_rises o _ _ key (all_at pair (λ q. cmp (pair e).0 q.0 ≡ Less) es rising.0 j d (omega arith))
  comparisons_rise pair key (e ∷ es) rising (suc i) zero d up within = absurd (omega arith)
  comparisons_rise pair key (e ∷ es) rising (suc i) (suc j) d up within = comparisons_rise pair key es rising.1 i j d (omega arith) (omega arith)

  -- a key that isn't before the second part isn't before both
  pub is_before_right : (key : K) (xs ys : List (K × V)) → IsRising cmp (xs ++ ys) → is_before cmp key ys ≡ false → is_before cmp key (xs ++ ys) ≡ false
  is_before_right key [] ys rising behind = behind
  is_before_right key (x ∷ xs) [] rising behind = absurd (cc)
  is_before_right key (x ∷ xs) (y ∷ ys) rising behind = ap is_lt (greater_of o x.0 y.0 key (all_append_right _ xs (y ∷ ys) rising.0).0 behind)

  -- such a key is greater than all keys of the first part
  pub all_lesser : (key : K) (xs ys : List (K × V)) → IsRising cmp (xs ++ ys) → is_before cmp key ys ≡ false → AllByRecursion (λ x. cmp key x.0 ≡ Greater) xs
  all_lesser key xs [] rising behind = absurd (cc)
  all_lesser key xs (y ∷ ys) rising behind = all_follow _ _ (λ x below. greater_of o x.0 y.0 key below behind) xs (each_before cmp xs y ys rising)

  -- a key that is before rising pairs is less than all their keys
  pub all_greater : (key : K) (ys : List (K × V)) → IsRising cmp ys → is_before cmp key ys ≡ true → AllByRecursion (λ y. cmp key y.0 ≡ Less) ys
  all_greater key [] rising before = tt
  all_greater key (y ∷ ys) rising before = (from_lt _ before, all_follow _ _ (λ z above. o.trans key y.0 z.0 (from_lt _ before) above) ys rising.0)

-- a put into two parts
module _ {K V : Type 0} (cmp : K → K → Ordering) where
  pub with_pair_left : (new : K × V) (xs ys : List (K × V)) → is_before cmp new.0 ys ≡ true → with_pair cmp (xs ++ ys) new ≡ with_pair cmp xs new ++ ys
  with_pair_left new [] [] before = refl
  with_pair_left new [] (y ∷ ys) before = rw (from_lt (cmp new.0 y.0) before) refl
  with_pair_left new (x ∷ xs) ys before = cases (with_pair_left new xs ys before) (cmp new.0 x.0)
    where
      cases : with_pair cmp (xs ++ ys) new ≡ with_pair cmp xs new ++ ys → (a : Ordering) → match_ordering a (new ∷ x ∷ (xs ++ ys)) (new ∷ (xs ++ ys)) (x ∷ with_pair cmp (xs ++ ys) new) ≡ match_ordering a (new ∷ x ∷ xs) (new ∷ xs) (x ∷ with_pair cmp xs new) ++ ys
      cases rest Less = refl
      cases rest Equal = refl
      cases rest Greater = ap (λ zs. x ∷ zs) rest

  pub with_pair_right : (new : K × V) (xs ys : List (K × V)) → AllByRecursion (λ x. cmp new.0 x.0 ≡ Greater) xs → with_pair cmp (xs ++ ys) new ≡ xs ++ with_pair cmp ys new
  with_pair_right new [] ys lesser = refl
  with_pair_right new (x ∷ xs) ys lesser = rw lesser.0 (ap (λ zs. x ∷ zs) (with_pair_right new xs ys lesser.1))

  -- a key that is in front of all isn't there
  pub without_key_before : (key : K) (ys : List (K × V)) → AllByRecursion (λ y. cmp key y.0 ≡ Less) ys → without_key cmp ys key ≡ ys
  without_key_before key [] greater = refl
  without_key_before key (y ∷ ys) greater = rw greater.0 (ap (λ zs. y ∷ zs) (without_key_before key ys greater.1))

  pub without_key_left : (key : K) (xs ys : List (K × V)) → AllByRecursion (λ y. cmp key y.0 ≡ Less) ys → without_key cmp (xs ++ ys) key ≡ without_key cmp xs key ++ ys
  without_key_left key [] ys greater = without_key_before key ys greater
  without_key_left key (x ∷ xs) ys greater = cases (without_key_left key xs ys greater) (cmp key x.0)
    where
      cases : without_key cmp (xs ++ ys) key ≡ without_key cmp xs key ++ ys → (a : Ordering) → (if is_eq a then xs ++ ys else x ∷ without_key cmp (xs ++ ys) key) ≡ (if is_eq a then xs else x ∷ without_key cmp xs key) ++ ys
      cases rest Less = ap (λ zs. x ∷ zs) rest
      cases rest Equal = refl
      cases rest Greater = ap (λ zs. x ∷ zs) rest

  pub without_key_right : (key : K) (xs ys : List (K × V)) → AllByRecursion (λ x. cmp key x.0 ≡ Greater) xs → without_key cmp (xs ++ ys) key ≡ xs ++ without_key cmp ys key
  without_key_right key [] ys lesser = refl
  without_key_right key (x ∷ xs) ys lesser = rw lesser.0 (ap (λ zs. x ∷ zs) (without_key_right key xs ys lesser.1))

  pub look_up_before : (key : K) (ys : List (K × V)) → AllByRecursion (λ y. cmp key y.0 ≡ Less) ys → look_up cmp ys key ≡ None
  look_up_before key [] greater = refl
  look_up_before key (y ∷ ys) greater = rw greater.0 (look_up_before key ys greater.1)

  pub look_up_left : (key : K) (xs ys : List (K × V)) → AllByRecursion (λ y. cmp key y.0 ≡ Less) ys → look_up cmp (xs ++ ys) key ≡ look_up cmp xs key
  look_up_left key [] ys greater = look_up_before key ys greater
  look_up_left key (x ∷ xs) ys greater = ap (λ v. if is_eq (cmp key x.0) then Some x.1 else v) (look_up_left key xs ys greater)

  pub look_up_right : (key : K) (xs ys : List (K × V)) → AllByRecursion (λ x. cmp key x.0 ≡ Greater) xs → look_up cmp (xs ++ ys) key ≡ look_up cmp ys key
  look_up_right key [] ys lesser = refl
  look_up_right key (x ∷ xs) ys lesser = rw lesser.0 (look_up_right key xs ys lesser.1)

  pub from_key_before : (key : K) (ys : List (K × V)) → AllByRecursion (λ y. cmp key y.0 ≡ Less) ys → from_key cmp ys key ≡ ys
  from_key_before key [] greater = refl
  from_key_before key (y ∷ ys) greater = rw greater.0 (ap (λ zs. y ∷ zs) (from_key_before key ys greater.1))

  pub from_key_behind : (key : K) (xs : List (K × V)) → AllByRecursion (λ x. cmp key x.0 ≡ Greater) xs → from_key cmp xs key ≡ []
  from_key_behind key [] lesser = refl
  from_key_behind key (x ∷ xs) lesser = rw lesser.0 (from_key_behind key xs lesser.1)
