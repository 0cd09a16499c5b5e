-- What a binary search among the values of a key finds.
use Rattle.std.proofs.Common.{◌≡◌, ℕ, zero, suc, ◌<◌, ◌≤◌, List, [], ◌∷◌, ◌++◌, length, take, drop, get_or, Option, Some, None, Ok, Err, slice_get, option_map, refl, sym, ap, subst, ◌∙◌, append_assoc, arith}
use Rattle.std.specs.List.{AllByRecursion, AllWithin, zip}
use Rattle.std.specs.List.Sorted.{IsNonDecreasingBy, IsBinarySearchResult}
use Rattle.std.specs.Map.{keys_of}
use Rattle.std.specs.FinMap.{IsAntisymmetric}
use Rattle.std.specs.declared.cmp.Ordering.{Ordering}
use Rattle.std.specs.declared.cmp.Ordering.TheVariants.{Less, Equal, Greater}
use Rattle.std.specs.Ordering.{ordering_index}
use Rattle.std.specs.Cmp.{IsTotalOrder}
use Rattle.std.proofs.Math.Seq.{drop-cons}
use Rattle.std.proofs.lemmas.List.{take-append-drop, length-drop}
use Rattle.std.proofs.lemmas.Cmp.{tied_back}
use Rattle.ix_pages.specs.Pairs.{IsRising}
use Rattle.ix_index.specs.Parting.{IsPartedAt}
use Rattle.ix_index.proofs.Sorted.{all_append_right, all_follow, less_back, greater_back, rising_right}

-- ---- elements at places

all_get : {X : Type 0} (P : X → Type 0) (xs : List X) → AllByRecursion P xs → (k : ℕ) (d : X) → k < length xs → P (get_or xs k d)
all_get P [] all k d within = absurd (omega arith)
all_get P (x ∷ xs) all zero d within = all.0
all_get P (x ∷ xs) all (suc k) d within = all_get P xs all.1 k d (omega arith)

all_taken : {X : Type 0} (P : X → Type 0) (xs : List X) (i : ℕ) → i ≤ length xs → AllWithin P xs 0 i → AllByRecursion P (take i xs)
all_taken P xs zero within all = tt
all_taken P [] (suc i) within all = absurd (omega arith)
all_taken P (x ∷ xs) (suc i) within all = (all 0 x (omega arith) (omega arith), all_taken P xs i (omega arith) (λ k d low high. all (suc k) d (omega arith) (omega arith)))

all_dropped : {X : Type 0} (P : X → Type 0) (xs : List X) (i : ℕ) → AllWithin P xs i (length xs) → AllByRecursion P (drop i xs)
all_dropped P [] zero all = tt
all_dropped P [] (suc i) all = tt
all_dropped P (x ∷ xs) zero all = (all 0 x (omega arith) (omega arith), all_dropped P xs zero (λ k d low high. all (suc k) d (omega arith) (omega arith)))
all_dropped P (x ∷ xs) (suc i) all = all_dropped P xs i (λ k d low high. all (suc k) d (omega arith) (omega arith))

module _ {K X : Type 0} where
  keys_of_drop : (i : ℕ) (es : List (K × X)) → keys_of (drop i es) ≡ drop i (keys_of es)
  keys_of_drop zero es = refl
  keys_of_drop (suc i) [] = refl
  keys_of_drop (suc i) (e ∷ es) = keys_of_drop i es

  keys_of_take : (i : ℕ) (es : List (K × X)) → keys_of (take i es) ≡ take i (keys_of es)
  keys_of_take zero es = refl
  keys_of_take (suc i) [] = refl
  keys_of_take (suc i) (e ∷ es) = ap (λ ks. e.0 ∷ ks) (keys_of_take i es)

  pub keys_all : (P : K → Type 0) (es : List (K × X)) → AllByRecursion (λ e. P e.0) es → AllByRecursion P (keys_of es)
  keys_all P [] all = tt
  keys_all P (e ∷ es) all = (all.0, keys_all P es all.1)

  pub all_keys : (P : K → Type 0) (es : List (K × X)) → AllByRecursion P (keys_of es) → AllByRecursion (λ e. P e.0) es
  all_keys P [] all = tt
  all_keys P (e ∷ es) all = (all.0, all_keys P es all.1)

  pub key_found : (es : List (K × X)) (i : ℕ) (r : Option (K × X)) → r ≡ slice_get es i → option_map (λ e. e.0) r ≡ slice_get (keys_of es) i
  key_found [] i r found = ap (option_map (λ e. e.0)) found
  key_found (e ∷ es) zero r found = ap (option_map (λ e. e.0)) found
  key_found (e ∷ es) (suc i) r found = key_found es i r found

module _ {V : Type 0} {cmp : V → V → Ordering} (o : IsTotalOrder cmp) where
  index_rises : (x y k : V) → cmp x y ≡ Less → ordering_index (cmp x k) ≤ ordering_index (cmp y k)
  index_rises x y k below = parts (cmp x k) (cmp y k) refl refl
    where
      parts : (a b : Ordering) → cmp x k ≡ a → cmp y k ≡ b → ordering_index a ≤ ordering_index b
      parts Less b p q = omega arith
      parts Equal Less p q = let e1 = o.congr x k y p in let e2 = less_back o y k q in absurd (cc)
      parts Equal Equal p q = omega arith
      parts Equal Greater p q = omega arith
      parts Greater Less p q = let e1 = o.trans k x y (greater_back o x k p) below in let e2 = less_back o y k q in absurd (cc)
      parts Greater Equal p q = let e1 = o.trans k x y (greater_back o x k p) below in let e2 = tied_back o y k q in absurd (cc)
      parts Greater Greater p q = omega arith

  comparisons_rise : {X : Type 0} (key : V) (es : List (V × X)) → IsRising cmp es → IsNonDecreasingBy (λ v. ordering_index (cmp v key)) (keys_of es)
  comparisons_rise key [] rising i j d up within = absurd (omega arith)
  comparisons_rise key (e ∷ es) rising zero zero d up within = omega arith
  comparisons_rise key (e ∷ es) rising zero (suc j) d up within =
      index_rises e.0 (get_or (keys_of es) j d) key (all_get (λ v. cmp e.0 v ≡ Less) (keys_of es) (keys_all (λ v. cmp e.0 v ≡ Less) es rising.0) j d (omega arith))
  comparisons_rise key (e ∷ es) rising (suc i) zero d up within = absurd (omega arith)
  comparisons_rise key (e ∷ es) rising (suc i) (suc j) d up within = comparisons_rise key es rising.1 i j d (omega arith) (omega arith)

  each_before : {X : Type 0} (xs : List (V × X)) (y : V × X) (ys : List (V × X)) → IsRising cmp (xs ++ y ∷ ys) → AllByRecursion (λ x. cmp x.0 y.0 ≡ Less) xs
  each_before [] y ys rising = tt
  each_before {X} (x ∷ xs) y ys rising = ((all_append_right (λ (z : V × X). cmp x.0 z.0 ≡ Less) xs (y ∷ ys) rising.0).0, each_before xs y ys rising.1)

  around : (xs : List (V × ℕ)) (y : V × ℕ) (ys : List (V × ℕ)) → IsRising cmp (xs ++ y ∷ ys) → IsPartedAt cmp y.0 (xs ++ y ∷ ys) xs (Some y.1) ys
  around xs y ys rising = record {
    all = refl;
    are_lesser = all_follow (λ (x : V × ℕ). cmp x.0 y.0 ≡ Less) (λ (x : V × ℕ). cmp y.0 x.0 ≡ Greater) (λ x below. less_back o x.0 y.0 below) xs (each_before xs y ys rising);
    are_greater = (rising_right cmp xs (y ∷ ys) rising).0;
  }

  module _ (value : V) (ps : List (V × ℕ)) (rising : IsRising cmp ps) (vs : List V) (is : vs ≡ keys_of ps) (at : ℕ) where
    pub parted_absent : at ≤ length vs → IsBinarySearchResult (λ v. cmp v value) vs (Err at) → IsPartedAt cmp value ps (take at ps) None (drop at ps)
    parted_absent within found =
        let parts = found (subst (IsNonDecreasingBy (λ v. ordering_index (cmp v value))) (sym is) (comparisons_rise value ps rising)) in
        let lesser : AllByRecursion (λ v. cmp value v ≡ Greater) (take at vs) = all_taken (λ v. cmp value v ≡ Greater) vs at within (λ k d low high. less_back o _ _ (parts.0 k d low high)) in
        let greater : AllByRecursion (λ v. cmp value v ≡ Less) (drop at vs) = all_dropped (λ v. cmp value v ≡ Less) vs at (λ k d low high. greater_back o _ _ (parts.1 k d low high)) in
        record {
          all = sym (take-append-drop at ps);
          are_lesser = all_keys (λ v. cmp value v ≡ Greater) (take at ps) (subst (AllByRecursion (λ v. cmp value v ≡ Greater)) (ap (take at) is ∙ sym (keys_of_take at ps)) lesser);
          are_greater = all_keys (λ v. cmp value v ≡ Less) (drop at ps) (subst (AllByRecursion (λ v. cmp value v ≡ Less)) (ap (drop at) is ∙ sym (keys_of_drop at ps)) greater);
        }

    pub parted_present : IsAntisymmetric cmp → (v : V) (count : ℕ) (rest : List (V × ℕ)) → at < length vs → drop at ps ≡ (v, count) ∷ rest
        → IsBinarySearchResult (λ w. cmp w value) vs (Ok at) → IsPartedAt cmp value ps (take at ps) (Some count) rest
    parted_present exact v count rest within behind found =
        let values : get_or vs at v ∷ drop (suc at) vs ≡ v ∷ keys_of rest = sym (drop-cons vs at v within) ∙ ap (drop at) is ∙ sym (keys_of_drop at ps) ∙ ap keys_of behind in
        let is_at : get_or vs at v ≡ v = cc in
        let equal : v ≡ value = exact v value (subst (λ w. cmp w value ≡ Equal) is_at (found v)) in
        let whole : ps ≡ take at ps ++ (v, count) ∷ rest = sym (take-append-drop at ps) ∙ ap (λ zs. take at ps ++ zs) behind in
        let known = around (take at ps) (v, count) rest (subst (IsRising cmp) whole rising) in
        subst (λ w. IsPartedAt cmp w ps (take at ps) (Some count) rest) equal
        (subst (λ zs. IsPartedAt cmp v zs (take at ps) (Some count) rest) (sym whole) known)

pub none_there : {X : Type 0} (xs : List X) (at : ℕ) → at < length xs → drop at xs ≡ [] → ⊥
none_there xs at within none = let gone = sym (length-drop at xs) ∙ ap length none in omega (arith, gone)

-- ---- values one after the other

zip_next : {V : Type 0} (vs : List V) (ns : List ℕ) → length ns ≡ length vs → (i : ℕ) (v : V) → i < length vs → v ≡ get_or vs i v → take (suc i) (zip vs ns) ≡ take i (zip vs ns) ++ (v, get_or ns i 0) ∷ []
zip_next [] ns same i v within at = absurd (omega arith)
zip_next (w ∷ vs) [] same i v within at = absurd (omega arith)
zip_next (w ∷ vs) (n ∷ ns) same zero v within at = ap (λ z. (z, n) ∷ []) (sym at)
zip_next (w ∷ vs) (n ∷ ns) same (suc i) v within at = ap (λ zs. (w, n) ∷ zs) (zip_next vs ns (omega arith) i v (omega arith) at)

pub appended : {V : Type 0} (start now next : List (V × ℕ)) (vs : List V) (ns : List ℕ) (part : List (V × ℕ)) (i j : ℕ) (v x : V) → length ns ≡ length vs → zip vs ns ≡ part → j ≡ suc i
    → now ≡ start ++ take i part → i < length vs → v ≡ x → x ≡ get_or vs i x → next ≡ now ++ (v, get_or ns i 0) ∷ [] → next ≡ start ++ take j part
appended start now next vs ns part i j v x same is step so_far within copy at pushed =
    let here : v ≡ get_or vs i v = subst (λ z. z ≡ get_or vs i z) (sym copy) at in
    pushed
    ∙ ap (λ zs. zs ++ (v, get_or ns i 0) ∷ []) so_far
    ∙ append_assoc start (take i part) ((v, get_or ns i 0) ∷ [])
    ∙ ap (λ zs. start ++ zs) (ap (λ zs. take i zs ++ (v, get_or ns i 0) ∷ []) (sym is) ∙ sym (zip_next vs ns same i v within here) ∙ ap (take (suc i)) is ∙ ap (λ k. take k part) (sym step))
