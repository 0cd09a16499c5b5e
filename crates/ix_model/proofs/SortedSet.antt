-- The sorted set of a list, for a total order in which only equal elements tie.
use Rattle.std.proofs.Common.{◌≡◌, ℕ, zero, suc, ◌<◌, ◌⊎◌, inl, inr, List, [], ◌∷◌, length, map, fold, Contains, refl, sym, ap, ◌∙◌, subst, arith, slice_index_or}
use Rattle.std.specs.declared.cmp.Ordering.{Ordering}
use Rattle.std.specs.declared.cmp.Ordering.TheVariants.{Less, Equal, Greater}
use Rattle.std.specs.Ordering.{match_ordering, ordering_reverse}
use Rattle.std.specs.Cmp.{IsTotalOrder}
use Rattle.std.specs.FinMap.{IsAntisymmetric}
use Rattle.std.specs.List.{AllByRecursion}
use Rattle.std.specs.List.Sorted.{IsStrictlySortedBy}
use Rattle.ix_model.specs.SortedSet.{add_once, sorted_set, IsSortedSetOf}

-- the list has the element, by cases on the list
abbrev pub Has : {X : Type 0} → List X → X → Type 0
Has [] x = ⊥
Has (y ∷ ys) x = (y ≡ x) ⊎ Has ys x

Has-at : {X : Type 0} (xs : List X) (x : X) (k : ℕ) → k < length xs → slice_index_or xs k x ≡ x → Has xs x
Has-at [] x k below is = absurd (omega arith)
Has-at (y ∷ ys) x zero below is = inl is
Has-at (y ∷ ys) x (suc k) below is = inr (Has-at ys x k (omega arith) is)

pub Has-from_Contains : {X : Type 0} (xs : List X) (x : X) → Contains xs x → Has xs x
Has-from_Contains xs x c = Has-at xs x c.0 c.1 c.2

Contains-cons : {X : Type 0} (y : X) (ys : List X) (x : X) → Contains ys x → Contains (y ∷ ys) x
Contains-cons y ys x c = (suc c.0, omega (arith, c.1), c.2)

pub Contains-from_Has : {X : Type 0} (xs : List X) (x : X) → Has xs x → Contains xs x
Contains-from_Has [] x h = absurd h
Contains-from_Has (y ∷ ys) x (inl e) = (zero, omega arith, e)
Contains-from_Has (y ∷ ys) x (inr h) = Contains-cons y ys x (Contains-from_Has ys x h)

All-at : {X : Type 0} (P : X → Type 0) (xs : List X) (x : X) → AllByRecursion P xs → Has xs x → P x
All-at P [] x a h = absurd h
All-at P (y ∷ ys) x a (inl e) = subst P e a.0
All-at P (y ∷ ys) x a (inr h) = All-at P ys x a.1 h

pub All-mapped : {X : Type 0} (P Q : X → Type 0) → ((x : X) → P x → Q x) → (xs : List X) → AllByRecursion P xs → AllByRecursion Q xs
All-mapped P Q f [] a = tt
All-mapped P Q f (x ∷ xs) a = (f x a.0, All-mapped P Q f xs a.1)

less≢greater : Less ≡ Greater → ⊥
less≢greater e = cc

module _ {X : Type 0} (cmp : X → X → Ordering) where
  -- the elements of a list with one more
  add_once-out : (x : X) (ys : List X) (z : X) → Has (add_once cmp x ys) z → (x ≡ z) ⊎ Has ys z
  add_once-out x [] z h = h
  add_once-out x (y ∷ ys) z h =
      (elim (cmp x y) as (λ r. Has (match_ordering r (x ∷ y ∷ ys) (y ∷ ys) (y ∷ add_once cmp x ys)) z → (x ≡ z) ⊎ Has (y ∷ ys) z) [
        | Less ↦ λ h. h
        | Equal ↦ λ h. inr h
        | Greater ↦ λ h. later (add_once-out x ys z) h
      ]) h
    where
      swapped : (x ≡ z) ⊎ Has ys z → (x ≡ z) ⊎ Has (y ∷ ys) z
      swapped (inl e) = inl e
      swapped (inr h) = inr (inr h)

      later : (Has (add_once cmp x ys) z → (x ≡ z) ⊎ Has ys z) → Has (y ∷ add_once cmp x ys) z → (x ≡ z) ⊎ Has (y ∷ ys) z
      later f (inl e) = inr (inl e)
      later f (inr h) = swapped (f h)

  module _ (same : IsAntisymmetric cmp) where
    add_once-in : (x : X) (ys : List X) (z : X) → (x ≡ z) ⊎ Has ys z → Has (add_once cmp x ys) z
    add_once-in x [] z h = h
    add_once-in x (y ∷ ys) z h =
        (elim (cmp x y) as (λ r. cmp x y ≡ r → Has (match_ordering r (x ∷ y ∷ ys) (y ∷ ys) (y ∷ add_once cmp x ys)) z) [
          | Less ↦ λ e. h
          | Equal ↦ λ e. tied (same x y e) h
          | Greater ↦ λ e. later (add_once-in x ys z) h
        ]) refl
      where
        tied : x ≡ y → (x ≡ z) ⊎ Has (y ∷ ys) z → Has (y ∷ ys) z
        tied p (inl e) = inl (sym p ∙ e)
        tied p (inr h) = h

        later : ((x ≡ z) ⊎ Has ys z → Has (add_once cmp x ys) z) → (x ≡ z) ⊎ Has (y ∷ ys) z → Has (y ∷ add_once cmp x ys) z
        later f (inl e) = inr (f (inl e))
        later f (inr (inl e)) = inl e
        later f (inr (inr h)) = inr (f (inr h))

  -- what holds of the elements and of one more holds of all
  add_once-All : (P : X → Type 0) (x : X) (ys : List X) → P x → AllByRecursion P ys → AllByRecursion P (add_once cmp x ys)
  add_once-All P x [] p a = (p, tt)
  add_once-All P x (y ∷ ys) p a =
      elim (cmp x y) as (λ r. AllByRecursion P (match_ordering r (x ∷ y ∷ ys) (y ∷ ys) (y ∷ add_once cmp x ys))) [
        | Less ↦ (p, a)
        | Equal ↦ a
        | Greater ↦ (a.0, add_once-All P x ys p a.1)
      ]

  module _ (o : IsTotalOrder cmp) where
    add_once-sorted : (x : X) (ys : List X) → IsStrictlySortedBy cmp ys → IsStrictlySortedBy cmp (add_once cmp x ys)
    unfolding IsStrictlySortedBy
    add_once-sorted x [] s = (tt, tt)
    add_once-sorted x (y ∷ ys) s =
        (elim (cmp x y) as (λ r. cmp x y ≡ r → IsStrictlySortedBy cmp (match_ordering r (x ∷ y ∷ ys) (y ∷ ys) (y ∷ add_once cmp x ys))) [
          | Less ↦ λ e. ((e, All-mapped (λ z. cmp y z ≡ Less) (λ z. cmp x z ≡ Less) (λ z l. o.trans x y z e l) ys s.0), s)
          | Equal ↦ λ e. s
          | Greater ↦ λ e. (add_once-All (λ z. cmp y z ≡ Less) x ys (o.antisymm y x ∙ ap ordering_reverse e) s.0, add_once-sorted x ys s.1)
        ]) refl

    not_both : (x y : X) → cmp x y ≡ Less → cmp y x ≡ Less → ⊥
    not_both x y e f = less≢greater (sym e ∙ (o.antisymm x y ∙ ap ordering_reverse f))

    not_itself : (x y : X) → x ≡ y → cmp x y ≡ Less → ⊥
    not_itself x y p e = not_both x y e (ap (λ (z : X). cmp z x) (sym p) ∙ (ap (cmp x) p ∙ e))

    -- what stands behind the first of one list stands behind the first of the other
    tail_in : (y : X) (ys : List X) (z : X) (zs : List X) → y ≡ z → AllByRecursion (λ x. cmp y x ≡ Less) ys → ((x : X) → Has (y ∷ ys) x → Has (z ∷ zs) x) → (x : X) → Has ys x → Has zs x
    tail_in y ys z zs p above into x h = rest (into x (inr h))
      where
        rest : Has (z ∷ zs) x → Has zs x
        rest (inl e) = absurd (not_itself y x (p ∙ e) (All-at (λ w. cmp y w ≡ Less) ys x above h))
        rest (inr k) = k

    -- each of the two first elements is in the other list, so they are the same
    heads : (y : X) (ys : List X) (z : X) (zs : List X) → AllByRecursion (λ x. cmp y x ≡ Less) ys → AllByRecursion (λ x. cmp z x ≡ Less) zs → Has (z ∷ zs) y → Has (y ∷ ys) z → y ≡ z
    heads y ys z zs s t (inl e) k = sym e
    heads y ys z zs s t (inr h) (inl e) = e
    heads y ys z zs s t (inr h) (inr k) = absurd (not_both z y (All-at (λ x. cmp z x ≡ Less) zs y t h) (All-at (λ x. cmp y x ≡ Less) ys z s k))

    -- a list that rises is determined by its elements
    same_sorted : (ys zs : List X) → IsStrictlySortedBy cmp ys → IsStrictlySortedBy cmp zs → ((x : X) → Has ys x → Has zs x) → ((x : X) → Has zs x → Has ys x) → ys ≡ zs
    unfolding IsStrictlySortedBy
    same_sorted [] [] s t into back = refl
    same_sorted [] (z ∷ zs) s t into back = absurd (back z (inl refl))
    same_sorted (y ∷ ys) [] s t into back = absurd (into y (inl refl))
    same_sorted (y ∷ ys) (z ∷ zs) s t into back =
        let p : y ≡ z = heads y ys z zs s.0 t.0 (into y (inl refl)) (back z (inl refl)) in
        let q : ys ≡ zs = same_sorted ys zs s.1 t.1 (tail_in y ys z zs p s.0 into) (tail_in z zs y ys (sym p) t.0 back) in
        cc

    pub same_set : (xs ys zs : List X) → IsSortedSetOf cmp xs ys → IsSortedSetOf cmp xs zs → ys ≡ zs
    same_set xs ys zs s t = same_sorted ys zs s.rises t.rises
        (λ x h. Has-from_Contains zs x ((t.same x).1 ((s.same x).0 (Contains-from_Has ys x h))))
        (λ x h. Has-from_Contains ys x ((s.same x).1 ((t.same x).0 (Contains-from_Has zs x h))))

    folded-sorted : (xs set : List X) → IsStrictlySortedBy cmp set → IsStrictlySortedBy cmp (fold (λ set x. add_once cmp x set) set xs)
    folded-sorted [] set s = s
    folded-sorted (x ∷ xs) set s = folded-sorted xs (add_once cmp x set) (add_once-sorted x set s)

  folded-out : (xs set : List X) (z : X) → Has (fold (λ set x. add_once cmp x set) set xs) z → Has set z ⊎ Has xs z
  folded-out [] set z h = inl h
  folded-out (x ∷ xs) set z h = outer (folded-out xs (add_once cmp x set) z h)
    where
      inner : (x ≡ z) ⊎ Has set z → Has set z ⊎ Has (x ∷ xs) z
      inner (inl e) = inr (inl e)
      inner (inr k) = inl k

      outer : Has (add_once cmp x set) z ⊎ Has xs z → Has set z ⊎ Has (x ∷ xs) z
      outer (inl k) = inner (add_once-out x set z k)
      outer (inr k) = inr (inr k)

  folded-in : (same : IsAntisymmetric cmp) (xs set : List X) (z : X) → Has set z ⊎ Has xs z → Has (fold (λ set x. add_once cmp x set) set xs) z
  folded-in same [] set z (inl h) = h
  folded-in same [] set z (inr h) = absurd h
  folded-in same (x ∷ xs) set z (inl h) = folded-in same xs (add_once cmp x set) z (inl (add_once-in same x set z (inr h)))
  folded-in same (x ∷ xs) set z (inr (inl e)) = folded-in same xs (add_once cmp x set) z (inl (add_once-in same x set z (inl e)))
  folded-in same (x ∷ xs) set z (inr (inr h)) = folded-in same xs (add_once cmp x set) z (inr h)

  in_the_list : (xs : List X) (z : X) → Has [] z ⊎ Has xs z → Has xs z
  in_the_list xs z (inl h) = absurd h
  in_the_list xs z (inr h) = h

  none_sorted : IsStrictlySortedBy cmp []
  unfolding IsStrictlySortedBy
  none_sorted = tt

  pub sorted_set-IsSortedSetOf : IsTotalOrder cmp → IsAntisymmetric cmp → (xs : List X) → IsSortedSetOf cmp xs (sorted_set cmp xs)
  sorted_set-IsSortedSetOf o same xs = record {
    rises = folded-sorted o xs [] none_sorted;
    same = λ x. (
      λ c. Contains-from_Has xs x (in_the_list xs x (folded-out xs [] x (Has-from_Contains (sorted_set cmp xs) x c))),
      λ c. Contains-from_Has (sorted_set cmp xs) x (folded-in same xs [] x (inr (Has-from_Contains xs x c))),
    );
  }

  folded-All : (P : X → Type 0) (xs set : List X) → AllByRecursion P set → AllByRecursion P xs → AllByRecursion P (fold (λ set x. add_once cmp x set) set xs)
  folded-All P [] set a b = a
  folded-All P (x ∷ xs) set a b = folded-All P xs (add_once cmp x set) (add_once-All P x set b.0 a) b.1

  -- what holds of a list's elements holds of its sorted set's
  pub sorted_set-All : (P : X → Type 0) (xs : List X) → AllByRecursion P xs → AllByRecursion P (sorted_set cmp xs)
  sorted_set-All P xs a = folded-All P xs [] tt a

map-match : {X K : Type 0} (k : X → K) (o : Ordering) (a b c : List X) → map k (match_ordering o a b c) ≡ match_ordering o (map k a) (map k b) (map k c)
map-match k Less a b c = refl
map-match k Equal a b c = refl
map-match k Greater a b c = refl

module _ {X K : Type 0} (k : X → K) (key_cmp : K → K → Ordering) where
  abbrev by_key : X → X → Ordering
  by_key x y = key_cmp (k x) (k y)

  map-add_once : (x : X) (ys : List X) → map k (add_once by_key x ys) ≡ add_once key_cmp (k x) (map k ys)
  map-add_once x [] = refl
  map-add_once x (y ∷ ys) =
      map-match k (by_key x y) (x ∷ y ∷ ys) (y ∷ ys) (y ∷ add_once by_key x ys)
      ∙ ap (λ (rest : List K). match_ordering (by_key x y) (k x ∷ k y ∷ map k ys) (k y ∷ map k ys) (k y ∷ rest)) (map-add_once x ys)

  map-folded : (xs set : List X) → map k (fold (λ set x. add_once by_key x set) set xs) ≡ fold (λ set x. add_once key_cmp x set) (map k set) (map k xs)
  map-folded [] set = refl
  map-folded (x ∷ xs) set =
      map-folded xs (add_once by_key x set)
      ∙ ap (λ (keys : List K). fold (λ set x. add_once key_cmp x set) keys (map k xs)) (map-add_once x set)

  -- the keys of a set that is sorted by them are the sorted set of the keys
  pub map-sorted_set : (xs : List X) → map k (sorted_set by_key xs) ≡ sorted_set key_cmp (map k xs)
  map-sorted_set xs = map-folded xs []
