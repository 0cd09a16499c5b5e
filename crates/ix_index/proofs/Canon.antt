-- Equal counts make equal indexes, and what stands in an index has a count.
use Rattle.std.proofs.Common.{◌≡◌, ◌↔◌, ℕ, zero, suc, ◌<◌, true, false, Bool, List, [], ◌∷◌, length, get_or, Option, Some, None, unwrap_or, Contains, if◌then◌else◌, refl, sym, ap, subst, ◌∙◌, arith}
use Rattle.std.specs.List.{AllByRecursion}
use Rattle.std.specs.List.Sorted.{IsStrictlySortedBy}
use Rattle.std.specs.Map.{keys_of}
use Rattle.std.specs.FinMap.{IsAntisymmetric}
use Rattle.std.specs.declared.cmp.Ordering.{Ordering}
use Rattle.std.specs.declared.cmp.Ordering.TheVariants.{Less, Equal, Greater}
use Rattle.std.specs.Ordering.{is_eq}
use Rattle.std.specs.Cmp.{IsTotalOrder}
use Rattle.ix_pages.specs.Pairs.{IsRising, look_up}
use Rattle.ix_index.specs.Counted.{count_in, ArePostings, postings_at, values_at, count_of, IsIndex}
use Rattle.ix_index.proofs.Sorted.{from_eq, all_follow, greater_back, is_itself, look_up_front, look_up_tied, none_behind, found_holds}
use Rattle.ix_index.proofs.Found.{keys_all}
use Rattle.ix_index.proofs.Revising.{postings_rise, postings_counted}

pair_is : {A B : Type 0} (x y : A × B) → x.0 ≡ y.0 → x.1 ≡ y.1 → x ≡ y
pair_is x y p q = λ i. (p i, q i)

module _ {K V : Type 0} {cmp : K → K → Ordering} (o : IsTotalOrder cmp) where
  found_first : (x : K × V) (xs : List (K × V)) → look_up cmp (x ∷ xs) x.0 ≡ Some x.1
  found_first x xs = ap (λ b. if b then Some x.1 else look_up cmp xs x.0) (is_itself o x.0)

  absent_below : (x y : K × V) (ys : List (K × V)) → IsRising cmp (y ∷ ys) → cmp x.0 y.0 ≡ Less → look_up cmp (y ∷ ys) x.0 ≡ None
  absent_below x y ys rising less = look_up_front cmp x.0 (y ∷ ys) (less, all_follow (λ later. cmp y.0 later.0 ≡ Less) (λ later. cmp x.0 later.0 ≡ Less) (λ later above. o.trans x.0 y.0 later.0 less above) ys rising.0)

  -- rising pairs in which every key finds the same are the same
  pub same_by_look_up : IsAntisymmetric cmp → (xs ys : List (K × V)) → IsRising cmp xs → IsRising cmp ys → ((k : K) → look_up cmp xs k ≡ look_up cmp ys k) → xs ≡ ys
  same_by_look_up exact [] [] rx ry same = refl
  same_by_look_up exact [] (y ∷ ys) rx ry same = let e = same y.0 ∙ found_first y ys in absurd (cc)
  same_by_look_up exact (x ∷ xs) [] rx ry same = let e = sym (same x.0) ∙ found_first x xs in absurd (cc)
  same_by_look_up exact (x ∷ xs) (y ∷ ys) rx ry same = cases (same_by_look_up exact xs ys rx.1 ry.1) (cmp x.0 y.0) refl
    where
      rest_at : cmp x.0 y.0 ≡ Equal → (k : K) → (b : Bool) → is_eq (cmp k x.0) ≡ b → look_up cmp xs k ≡ look_up cmp ys k
      rest_at tied k true here =
          let at_x : cmp k x.0 ≡ Equal = from_eq (cmp k x.0) here in
          let at_y : cmp k y.0 ≡ Equal = o.congr k x.0 y.0 at_x ∙ tied in
          none_behind o k x xs at_x rx.0 ∙ sym (none_behind o k y ys at_y ry.0)
      rest_at tied k false other =
          let key : x.0 ≡ y.0 = exact x.0 y.0 tied in
          let other_y : is_eq (cmp k y.0) ≡ false = ap (λ z. is_eq (cmp k z)) (sym key) ∙ other in
          sym (ap (λ b. if b then Some x.1 else look_up cmp xs k) other) ∙ same k ∙ ap (λ b. if b then Some y.1 else look_up cmp ys k) other_y

      cases : (((k : K) → look_up cmp xs k ≡ look_up cmp ys k) → xs ≡ ys) → (a : Ordering) → cmp x.0 y.0 ≡ a → (x ∷ xs) ≡ (y ∷ ys)
      cases rest Less less = let e = sym (found_first x xs) ∙ same x.0 ∙ absent_below x y ys ry less in absurd (cc)
      cases rest Greater greater = let e = sym (found_first y ys) ∙ sym (same y.0) ∙ absent_below y x xs rx (greater_back o x.0 y.0 greater) in absurd (cc)
      cases rest Equal tied =
          let found : Some x.1 ≡ Some y.1 = sym (found_first x xs) ∙ same x.0 ∙ look_up_tied o x.0 y.0 tied (y ∷ ys) ∙ found_first y ys in
          let value : x.1 ≡ y.1 = cc in
          ap (λ z. z ∷ xs) (pair_is x y (exact x.0 y.0 tied) value) ∙ ap (λ zs. y ∷ zs) (rest (λ k. rest_at tied k (is_eq (cmp k x.0)) refl))

  pub keys_rise : (es : List (K × V)) → IsRising cmp es → IsStrictlySortedBy cmp (keys_of es)
  unfolding IsStrictlySortedBy
  keys_rise [] rising = tt
  keys_rise (e ∷ es) rising = (keys_all (λ k. cmp e.0 k ≡ Less) es rising.0, keys_rise es rising.1)

  -- a key that is found is one of the keys
  pub key_there : IsAntisymmetric cmp → (es : List (K × V)) (k : K) (v : V) → look_up cmp es k ≡ Some v → Contains (keys_of es) k
  key_there exact [] k v found = absurd (cc)
  key_there exact (e ∷ es) k v found = cases (key_there exact es k v) (is_eq (cmp k e.0)) refl found
    where
      cases : (look_up cmp es k ≡ Some v → Contains (keys_of es) k) → (b : Bool) → is_eq (cmp k e.0) ≡ b → (if b then Some e.1 else look_up cmp es k) ≡ Some v → Contains (keys_of (e ∷ es)) k
      cases rest true here found = (0, omega arith, sym (exact k e.0 (from_eq (cmp k e.0) here)))
      cases rest false other found = let there = rest found in (suc there.0, omega (arith, there.1), there.2)

  -- and one of the keys is found
  pub there_found : (es : List (K × V)) (k : K) (i : ℕ) → i < length (keys_of es) → get_or (keys_of es) i k ≡ k → (v : V) × (look_up cmp es k ≡ Some v)
  there_found [] k i within at = absurd (omega arith)
  there_found (e ∷ es) k zero within at = (e.1, ap (λ b. if b then Some e.1 else look_up cmp es k) (ap (λ z. is_eq (cmp k z)) at ∙ is_itself o k))
  there_found (e ∷ es) k (suc i) within at = cases (is_eq (cmp k e.0)) (there_found es k i (omega arith) at)
    where
      cases : (b : Bool) → (v : V) × (look_up cmp es k ≡ Some v) → (v : V) × ((if b then Some e.1 else look_up cmp es k) ≡ Some v)
      cases true rest = (e.1, refl)
      cases false rest = rest

module _ {V : Type 0} {cmp : V → V → Ordering} (o : IsTotalOrder cmp) where
  same_found : (ps qs : List (V × ℕ)) → AllByRecursion (λ p. 0 < p.1) ps → AllByRecursion (λ q. 0 < q.1) qs → (v : V) → count_in cmp ps v ≡ count_in cmp qs v → look_up cmp ps v ≡ look_up cmp qs v
  same_found ps qs counted_ps counted_qs v same = cases (look_up cmp ps v) (look_up cmp qs v) refl refl same
    where
      cases : (a b : Option ℕ) → look_up cmp ps v ≡ a → look_up cmp qs v ≡ b → unwrap_or a 0 ≡ unwrap_or b 0 → a ≡ b
      cases None None p q e = refl
      cases None (Some m) p q e = let some = found_holds o (λ n. 0 < n) qs v m counted_qs q in absurd (omega (arith, some, e))
      cases (Some n) None p q e = let some = found_holds o (λ n. 0 < n) ps v n counted_ps p in absurd (omega (arith, some, e))
      cases (Some n) (Some m) p q e = ap (λ z. Some z) e

  counts_some : (ps : List (V × ℕ)) → AllByRecursion (λ p. 0 < p.1) ps → (v : V) (n : ℕ) → look_up cmp ps v ≡ Some n → 0 < count_in cmp ps v
  counts_some ps counted v n found =
      let some = found_holds o (λ m. 0 < m) ps v n counted found in
      let is : count_in cmp ps v ≡ n = ap (λ (c : Option ℕ). unwrap_or c 0) found in
      omega (arith, some, is)

  some_counts : (ps : List (V × ℕ)) (v : V) → 0 < count_in cmp ps v → (n : ℕ) × (look_up cmp ps v ≡ Some n)
  some_counts ps v some = cases (look_up cmp ps v) refl some
    where
      cases : (c : Option ℕ) → look_up cmp ps v ≡ c → 0 < unwrap_or c 0 → (n : ℕ) × (look_up cmp ps v ≡ Some n)
      cases None is none = absurd (omega arith)
      cases (Some n) is some = (n, is)

  pub values_counted : IsAntisymmetric cmp → (ps : List (V × ℕ)) → AllByRecursion (λ p. 0 < p.1) ps → (v : V) → Contains (keys_of ps) v ↔ (0 < count_in cmp ps v)
  values_counted exact ps counted v = (
    λ there. let found = there_found o ps v there.0 there.1 there.2 in counts_some ps counted v found.0 found.1,
    λ some. let found = some_counts ps v some in key_there o exact ps v found.0 found.1,
  )

module _ {K V : Type 0} {kcmp : K → K → Ordering} {vcmp : V → V → Ordering} (ok : IsTotalOrder kcmp) (ov : IsTotalOrder vcmp) (exact_k : IsAntisymmetric kcmp) (exact_v : IsAntisymmetric vcmp) where
  same_postings : (a b : List (K × List (V × ℕ))) → IsIndex kcmp vcmp a → IsIndex kcmp vcmp b → (key : K) → ((value : V) → count_of kcmp vcmp a key value ≡ count_of kcmp vcmp b key value)
      → postings_at kcmp a key ≡ postings_at kcmp b key
  same_postings a b is_a is_b key same = same_by_look_up ov exact_v (postings_at kcmp a key) (postings_at kcmp b key) (postings_rise ok ov a key is_a) (postings_rise ok ov b key is_b)
      (λ v. same_found ov (postings_at kcmp a key) (postings_at kcmp b key) (postings_counted ok ov a key is_a) (postings_counted ok ov b key is_b) v (same v))

  none_empty : (index : List (K × List (V × ℕ))) → IsIndex kcmp vcmp index → (key : K) → look_up kcmp index key ≡ Some [] → ⊥
  none_empty index is key found = let some = (found_holds ok (ArePostings vcmp) index key [] is.each found).some in omega (arith, some)

  same_entry : (a b : List (K × List (V × ℕ))) → IsIndex kcmp vcmp a → IsIndex kcmp vcmp b → (key : K) → postings_at kcmp a key ≡ postings_at kcmp b key → look_up kcmp a key ≡ look_up kcmp b key
  same_entry a b is_a is_b key same = cases (look_up kcmp a key) (look_up kcmp b key) refl refl same
    where
      cases : (x y : Option (List (V × ℕ))) → look_up kcmp a key ≡ x → look_up kcmp b key ≡ y → unwrap_or x [] ≡ unwrap_or y [] → x ≡ y
      cases None None p q e = refl
      cases None (Some ps) p q e = absurd (none_empty b is_b key (q ∙ ap (λ zs. Some zs) (sym e)))
      cases (Some ps) None p q e = absurd (none_empty a is_a key (p ∙ ap (λ zs. Some zs) e))
      cases (Some ps) (Some qs) p q e = ap (λ zs. Some zs) e

  pub equal_indexes : (a b : List (K × List (V × ℕ))) → IsIndex kcmp vcmp a → IsIndex kcmp vcmp b
      → ((key : K) (value : V) → count_of kcmp vcmp a key value ≡ count_of kcmp vcmp b key value) → a ≡ b
  equal_indexes a b is_a is_b same = same_by_look_up ok exact_k a b is_a.rises is_b.rises (λ key. same_entry a b is_a is_b key (same_postings a b is_a is_b key (same key)))

  pub values_rise : (index : List (K × List (V × ℕ))) (key : K) → IsIndex kcmp vcmp index → IsStrictlySortedBy vcmp (values_at kcmp index key)
  values_rise index key is = keys_rise ov (postings_at kcmp index key) (postings_rise ok ov index key is)

  pub values_each : (index : List (K × List (V × ℕ))) (key : K) (value : V) → IsIndex kcmp vcmp index → Contains (values_at kcmp index key) value ↔ (0 < count_of kcmp vcmp index key value)
  values_each index key value is = values_counted ov exact_v (postings_at kcmp index key) (postings_counted ok ov index key is) value

  pub index_keys_rise : (index : List (K × List (V × ℕ))) → IsIndex kcmp vcmp index → IsStrictlySortedBy kcmp (keys_of index)
  index_keys_rise index is = keys_rise ok index is.rises

  first_counts : (ps : List (V × ℕ)) → ArePostings vcmp ps → (value : V) × (0 < count_in vcmp ps value)
  first_counts [] are = absurd (omega (arith, are.some))
  first_counts (p ∷ ps) are = (p.0, counts_some ov (p ∷ ps) are.counted p.0 p.1 (found_first ov p ps))

  pub index_keys_each : (index : List (K × List (V × ℕ))) (key : K) → IsIndex kcmp vcmp index → Contains (keys_of index) key ↔ ((value : V) × (0 < count_of kcmp vcmp index key value))
  index_keys_each index key is = (
    λ there.
        let found = there_found ok index key there.0 there.1 there.2 in
        let some = first_counts found.0 (found_holds ok (ArePostings vcmp) index key found.0 is.each found.1) in
        (some.0, subst (λ (ps : List (V × ℕ)). 0 < count_in vcmp ps some.0) (sym (ap (λ (c : Option (List (V × ℕ))). unwrap_or c []) found.1)) some.1),
    λ some. cases (look_up kcmp index key) refl some.0 some.1,
  )
    where
      cases : (c : Option (List (V × ℕ))) → look_up kcmp index key ≡ c → (value : V) → 0 < count_in vcmp (unwrap_or c []) value → Contains (keys_of index) key
      cases None is value none = absurd (omega arith)
      cases (Some ps) is value some = key_there ok exact_k index key ps is
