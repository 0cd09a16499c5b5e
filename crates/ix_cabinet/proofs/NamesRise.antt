-- Names that rise.
use Rattle.std.proofs.Common.{◌≡◌, ℕ, Bool, true, false, List, [], ◌∷◌, map, filter, take, get_or, zero, suc, length, ◌<◌, refl, sym, ap, subst, ◌∙◌, Some, None, Result, Ok, Err, IfOk, Vec}
use Rattle.std.specs.declared.alloc.Global.{Global}
use Rattle.std.specs.List.{AllByRecursion, slice_get}
use Rattle.std.specs.List.Sorted.{IsStrictlySortedBy}
use Rattle.std.specs.Map.{keys_of, lookup}
use Rattle.std.specs.Cmp.Lexicographic.{nat_list_cmp_total, texts_ties}
use Rattle.std.specs.declared.cmp.Ordering.{Ordering}
use Rattle.std.specs.declared.cmp.Ordering.TheVariants.{Less, Equal, Greater}
use Rattle.std.specs.Ordering.{is_lt, is_eq, ordering_reverse, on}
use Rattle.std.specs.FinMap.{is_sorted}
use Rattle.std.specs.FinMap.Entries.{below_all}
use Rattle.std.proofs.lemmas.Bool.{and_parts}
use Rattle.std.proofs.lemmas.List.Kept.{IsStrictlySortedBy-filter}
use Rattle.ix_dir.specs.declared.dir.Listed.{Listed}
use Rattle.ix_dir.specs.Files.{IsRising}
use Rattle.ix_types.specs.Row.{text_cmp}
use Rattle.ix_dir.specs.Moves.{same_name}
use Rattle.std.proofs.lemmas.Option.{slice_get-get_or, same_Some}
use Rattle.ix_dir.specs.Files.{rows_of}

pub less : (o : Ordering) → is_lt o ≡ true → o ≡ Less
less Less e = refl
less Equal e = cc
less Greater e = cc

module _ {K X : Type 0} (R : K → K → Ordering) where
  below : (x : K) (es : List (K × X)) → below_all R x es ≡ true → AllByRecursion (λ y. R x y ≡ Less) (keys_of es)
  below x [] h = tt
  below x (e ∷ es) h =
      let parts = and_parts (is_lt (R x e.0)) (below_all R x es) h in
      (less (R x e.0) parts.0, below x es parts.1)

  pub rising_keys : (es : List (K × X)) → is_sorted R es ≡ true → IsStrictlySortedBy R (keys_of es)
  unfolding IsStrictlySortedBy
  rising_keys [] h = tt
  rising_keys (e ∷ es) h =
      let parts = and_parts (below_all R e.0 es) (is_sorted R es) h in
      (below e.0 es parts.0, rising_keys es parts.1)

module _ {A K : Type 0} (R : K → K → Ordering) (f : A → K) where
  all_on : (x : A) (ys : List A) → AllByRecursion (λ k. R (f x) k ≡ Less) (map f ys) → AllByRecursion (λ y. on f R x y ≡ Less) ys
  all_on x [] h = tt
  all_on x (y ∷ ys) h = (h.0, all_on x ys h.1)

  all_map : (x : A) (ys : List A) → AllByRecursion (λ y. on f R x y ≡ Less) ys → AllByRecursion (λ k. R (f x) k ≡ Less) (map f ys)
  all_map x [] h = tt
  all_map x (y ∷ ys) h = (h.0, all_map x ys h.1)

  sorted_on : (xs : List A) → IsStrictlySortedBy R (map f xs) → IsStrictlySortedBy (on f R) xs
  unfolding IsStrictlySortedBy
  sorted_on [] h = tt
  sorted_on (x ∷ xs) h = (all_on x xs h.0, sorted_on xs h.1)

  sorted_map : (xs : List A) → IsStrictlySortedBy (on f R) xs → IsStrictlySortedBy R (map f xs)
  unfolding IsStrictlySortedBy
  sorted_map [] h = tt
  sorted_map (x ∷ xs) h = (all_map x xs h.0, sorted_map xs h.1)

  pub sorted_filtered : (p : A → Bool) (xs : List A) → IsStrictlySortedBy R (map f xs) → IsStrictlySortedBy R (map f (filter p xs))
  sorted_filtered p xs h = sorted_map (filter p xs) (IsStrictlySortedBy-filter (on f R) p xs (sorted_on xs h))

names_of_rows : (listed : List Listed) → keys_of (rows_of listed) ≡ map (λ l. l.name) listed
names_of_rows [] = refl
names_of_rows (l ∷ listed) = ap (λ rest. l.name ∷ rest) (names_of_rows listed)

-- the names of some of a list that rises rise
pub some_rise : (p : Listed → Bool) (listed : List Listed) → IsRising listed → IsStrictlySortedBy text_cmp (map (λ l. l.name) (filter p listed))
some_rise p listed h = sorted_filtered text_cmp (λ l. l.name) p listed (subst (IsStrictlySortedBy text_cmp) (names_of_rows listed) (rising_keys text_cmp (rows_of listed) h))

-- those names of a list that rises which pass a test rise
pub kept_rise : {E : Type 0} (r : Result (Vec (List ℕ) Global) E) (p : List ℕ → Bool) (names : List (List ℕ)) → IsStrictlySortedBy text_cmp names → IfOk r (λ v. v.items ≡ filter p names) → IfOk r (λ v. IsStrictlySortedBy text_cmp v.items)
kept_rise (Ok v) p names rise is = subst (IsStrictlySortedBy text_cmp) (sym is) (IsStrictlySortedBy-filter text_cmp p names rise)
kept_rise (Err e) p names rise is = tt

other : (x y : List ℕ) → text_cmp y x ≡ Less → same_name x y ≡ false
other x y e = texts_ties x y ∙ ap is_eq (nat_list_cmp_total.antisymm x y ∙ ap ordering_reverse e)

below_at : (x : List ℕ) (ys : List Listed) (i : ℕ) (y : Listed) → AllByRecursion (λ k. text_cmp x k ≡ Less) (map (λ l. l.name) ys) → slice_get ys i ≡ Some y → text_cmp x y.name ≡ Less
below_at x [] i y h at = cc
below_at x (z ∷ ys) zero y h at = subst (λ l. text_cmp x l.name ≡ Less) (same_Some z y at) h.0
below_at x (z ∷ ys) (suc i) y h at = below_at x ys i y h.1 at

not_before : (xs : List Listed) (i : ℕ) (x : Listed) → IsStrictlySortedBy text_cmp (map (λ l. l.name) xs) → slice_get xs i ≡ Some x → lookup (same_name x.name) (rows_of (take i xs)) ≡ None
unfolding IsStrictlySortedBy
not_before [] zero x h at = refl
not_before [] (suc i) x h at = refl
not_before (y ∷ ys) zero x h at = refl
not_before (y ∷ ys) (suc i) x h at = rw (other x.name y.name (below_at y.name ys i x h.0 at)) (not_before ys i x h.1 at)

-- a name that is listed has none of the stamps listed before it
pub is_new : (listed : List Listed) (i : ℕ) (one : Listed) → IsRising listed → i < length listed → one ≡ get_or listed i one → lookup (same_name one.name) (rows_of (take i listed)) ≡ None
is_new listed i one rise small is =
    not_before listed i one (subst (IsStrictlySortedBy text_cmp) (names_of_rows listed) (rising_keys text_cmp (rows_of listed) rise)) (slice_get-get_or listed i one small ∙ ap Some (sym is))
