-- Leases as pairs that rise by name: which names they have, and what one more name, or a name noted as put, leaves.
use Rattle.std.proofs.Common.{◌≡◌, ℕ, ◌+◌, ◌<◌, Bool, true, false, cond, ◌||◌, ◌&&◌, ◌⊎◌, inl, inr, List, [], ◌∷◌, ◌++◌, length, map, take, get_or, Some, refl, sym, ap, subst, ◌∙◌}
use Rattle.std.specs.declared.cmp.Ordering.TheVariants.{Less, Equal, Greater}
use Rattle.std.specs.Ordering.{is_eq, match_ordering}
use Rattle.std.specs.List.{AllByRecursion}
use Rattle.std.specs.List.Sorted.{IsStrictlySortedBy}
use Rattle.std.specs.Map.{lookup, keys_of}
use Rattle.std.specs.BTreeMap.{insert_entry, is_at}
use Rattle.std.specs.Option.{is_some}
use Rattle.std.specs.Str.{bytes_eq}
use Rattle.std.proofs.lemmas.List.{take_more}
use Rattle.std.proofs.lemmas.List.Folds.{list_any-append}
use Rattle.std.proofs.lemmas.List.Sums.{fold-append}
use Rattle.std.proofs.lemmas.Map.Text.{is_eq-slice_cmp}
use Rattle.std.proofs.lemmas.Slice.Eq.{bytes_eq-Decides}
use Rattle.ix_types.specs.Row.{text_cmp}
use Rattle.ix_model.specs.SortedSet.{add_once, sorted_set}
use Rattle.ix_machine.specs.Needs.{option_any, has_name}
use Rattle.ix_guard.specs.Guarding.{Lease, lease_of_names}
use Rattle.ix_guard.specs.Protection.{leases_name, has_put}
use Rattle.ix_guard.proofs.Counting.{names-same, ties_itself, is_itself, same_or_apart}
use Rattle.ix_guard.proofs.Following.{all_above}
use Rattle.ix_guard.proofs.Loose.{all_at}
use Rattle.ix_guard.proofs.Naming.{eq_turned, has_there}

differ : {b : Bool} → b ≡ true → b ≡ false → ⊥
differ e f = cc

-- ---- which names a lease has

pub leases_key : (name : List ℕ) (lease : Lease) → leases_name name lease ≡ has_name name (keys_of lease)
leases_key name [] = refl
leases_key name (l ∷ ls) =
    step (is_eq (text_cmp name l.0)) (leases_key name ls)
    ∙ ap (λ b. b || has_name name (keys_of ls)) (is_eq-slice_cmp name l.0 ∙ eq_turned name l.0)
  where
    step : (b : Bool) → is_some (lookup (is_at (text_cmp name)) ls) ≡ has_name name (keys_of ls) → is_some (cond b (Some l.1) (lookup (is_at (text_cmp name)) ls)) ≡ (b || has_name name (keys_of ls))
    step true rest = refl
    step false rest = rest

-- ---- names with what f gives for each

module _ (f : List ℕ → Bool) where
  pub keys_with : (xs : List (List ℕ)) → keys_of (map {B = List ℕ × Bool} (λ x. (x, f x)) xs) ≡ xs
  keys_with [] = refl
  keys_with (x ∷ xs) = ap (λ (ys : List (List ℕ)). x ∷ ys) (keys_with xs)

  pub put_with : (name : List ℕ) (xs : List (List ℕ)) → has_put name (map {B = List ℕ × Bool} (λ x. (x, f x)) xs) ≡ (has_name name xs && f name)
  put_with name [] = refl
  put_with name (x ∷ xs) = go (same_or_apart x name) (put_with name xs)
    where
      go : (x ≡ name) ⊎ ((is_eq (text_cmp name x) ≡ false) × (bytes_eq x name ≡ false)) → has_put name (map {B = List ℕ × Bool} (λ x. (x, f x)) xs) ≡ (has_name name xs && f name)
          → option_any (λ put. put) (cond (is_eq (text_cmp name x)) (Some (f x)) (lookup (is_at (text_cmp name)) (map {B = List ℕ × Bool} (λ x. (x, f x)) xs))) ≡ ((bytes_eq x name || has_name name xs) && f name)
      go (inl e) rest =
          subst (λ (z : List ℕ). option_any (λ put. put) (cond (is_eq (text_cmp name z)) (Some (f z)) (lookup (is_at (text_cmp name)) (map {B = List ℕ × Bool} (λ x. (x, f x)) xs))) ≡ ((bytes_eq z name || has_name name xs) && f name)) (sym e)
          (ap (λ b. option_any (λ put. put) (cond b (Some (f name)) (lookup (is_at (text_cmp name)) (map {B = List ℕ × Bool} (λ x. (x, f x)) xs)))) (ties_itself name)
          ∙ sym (ap (λ b. (b || has_name name xs) && f name) (is_itself name)))
      go (inr ne) rest =
          ap (λ b. option_any (λ put. put) (cond b (Some (f x)) (lookup (is_at (text_cmp name)) (map {B = List ℕ × Bool} (λ x. (x, f x)) xs)))) ne.0
          ∙ (rest ∙ sym (ap (λ b. (b || has_name name xs) && f name) ne.1))

-- ---- one name more

one_leased : (xs : List (List ℕ)) (n : List ℕ) → insert_entry text_cmp (map {B = List ℕ × Bool} (λ m. (m, false)) xs) n false ≡ map {B = List ℕ × Bool} (λ m. (m, false)) (add_once text_cmp n xs)
one_leased [] n = refl
one_leased (x ∷ xs) n =
    elim (text_cmp n x) as (λ r. match_ordering r ((n, false) ∷ (x, false) ∷ map {B = List ℕ × Bool} (λ m. (m, false)) xs) ((x, false) ∷ map {B = List ℕ × Bool} (λ m. (m, false)) xs) ((x, false) ∷ insert_entry text_cmp (map {B = List ℕ × Bool} (λ m. (m, false)) xs) n false)
    ≡ map {B = List ℕ × Bool} (λ m. (m, false)) (match_ordering r (n ∷ x ∷ xs) (x ∷ xs) (x ∷ add_once text_cmp n xs))) [
      | Less ↦ refl
      | Equal ↦ refl
      | Greater ↦ ap (λ (ls : Lease). (x, false) ∷ ls) (one_leased xs n)
    ]

pub leased_more : (xs : List (List ℕ)) (i : ℕ) (x : List ℕ) → i < length xs → x ≡ get_or xs i x → (before after : Lease) → before ≡ lease_of_names (take i xs) → after ≡ insert_entry text_cmp before x false → after ≡ lease_of_names (take (i + 1) xs)
leased_more xs i x below is before after so_far next =
    next
    ∙ (ap (λ (ls : Lease). insert_entry text_cmp ls x false) so_far
    ∙ (one_leased (sorted_set text_cmp (take i xs)) x
    ∙ ap (map {B = List ℕ × Bool} (λ m. (m, false))) (sym more)))
  where
    more : sorted_set text_cmp (take (i + 1) xs) ≡ add_once text_cmp x (sorted_set text_cmp (take i xs))
    more =
        ap (sorted_set text_cmp) (take_more xs i x below)
        ∙ (fold-append (λ set y. add_once text_cmp y set) [] (take i xs) (get_or xs i x ∷ [])
        ∙ ap (λ (y : List ℕ). add_once text_cmp y (sorted_set text_cmp (take i xs))) (sym is))

-- ---- a name noted as put

-- a name that is put once more
put_more : (put : List (List ℕ)) (name n : List ℕ) → has_name n (put ++ name ∷ []) ≡ (has_name n put || bytes_eq n name)
put_more put name n =
    list_any-append (λ other. bytes_eq other n) put (name ∷ [])
    ∙ ap (λ b. has_name n put || b) (alone (bytes_eq name n) ∙ eq_turned name n)
  where
    alone : (b : Bool) → (b || false) ≡ b
    alone true = refl
    alone false = refl

or_true : (a : Bool) {b : Bool} → b ≡ true → (a || b) ≡ true
or_true true e = refl
or_true false e = e

or_false : (a : Bool) {b : Bool} → b ≡ false → (a || b) ≡ a
or_false true e = refl
or_false false e = e

module _ (put : List (List ℕ)) (name : List ℕ) where
  abbrev noted_so : List (List ℕ) → Lease
  noted_so xs = map {B = List ℕ × Bool} (λ n. (n, has_name n put)) xs

  abbrev noted_then : List (List ℕ) → Lease
  noted_then xs = map {B = List ℕ × Bool} (λ n. (n, has_name n (put ++ name ∷ []))) xs

  put_now : (x : List ℕ) → name ≡ x → has_name x (put ++ name ∷ []) ≡ true
  put_now x e = put_more put name x ∙ or_true (has_name x put) ((bytes_eq-Decides x name).1 (sym e))

  put_as_before : (x : List ℕ) → bytes_eq x name ≡ false → has_name x (put ++ name ∷ []) ≡ has_name x put
  put_as_before x ne = put_more put name x ∙ or_false (has_name x put) ne

  apart_after : (x : List ℕ) → text_cmp name x ≡ Less → bytes_eq x name ≡ false
  apart_after x less = eq_turned x name ∙ (sym (is_eq-slice_cmp name x) ∙ ap is_eq less)

  apart_before : (x : List ℕ) → text_cmp name x ≡ Greater → bytes_eq x name ≡ false
  apart_before x greater = eq_turned x name ∙ (sym (is_eq-slice_cmp name x) ∙ ap is_eq greater)

  rest_stays : (xs : List (List ℕ)) → AllByRecursion (λ y. text_cmp name y ≡ Less) xs → noted_so xs ≡ noted_then xs
  rest_stays [] a = refl
  rest_stays (x ∷ xs) a =
      ap (λ (b : Bool). (x, b) ∷ noted_so xs) (sym (put_as_before x (apart_after x a.0)))
      ∙ ap (λ (ls : Lease). (x, has_name x (put ++ name ∷ [])) ∷ ls) (rest_stays xs a.1)

  pub noted_pairs : (xs : List (List ℕ)) → IsStrictlySortedBy text_cmp xs → has_name name xs ≡ true → insert_entry text_cmp (noted_so xs) name true ≡ noted_then xs
  unfolding IsStrictlySortedBy
  noted_pairs [] rises has = absurd (differ has refl)
  noted_pairs (x ∷ xs) rises has =
      (elim (text_cmp name x) as (λ r. text_cmp name x ≡ r → match_ordering r ((name, true) ∷ (x, has_name x put) ∷ noted_so xs) ((x, true) ∷ noted_so xs) ((x, has_name x put) ∷ insert_entry text_cmp (noted_so xs) name true) ≡ noted_then (x ∷ xs)) [
        | Less ↦ λ c. absurd (differ (ties_itself name) (ap is_eq (all_at (λ y. text_cmp name y ≡ Less) (x ∷ xs) name (has_there name (x ∷ xs) has) (c, all_above name name x xs c rises.0))))
        | Equal ↦ λ c.
            let same : name ≡ x = names-same name x c in
            ap (λ (b : Bool). (x, b) ∷ noted_so xs) (sym (put_now x same))
            ∙ ap (λ (ls : Lease). (x, has_name x (put ++ name ∷ [])) ∷ ls) (rest_stays xs (subst (λ (z : List ℕ). AllByRecursion (λ y. text_cmp z y ≡ Less) xs) (sym same) rises.0))
        | Greater ↦ λ c.
            let apart : bytes_eq x name ≡ false = apart_before x c in
            ap (λ (b : Bool). (x, b) ∷ insert_entry text_cmp (noted_so xs) name true) (sym (put_as_before x apart))
            ∙ ap (λ (ls : Lease). (x, has_name x (put ++ name ∷ [])) ∷ ls) (noted_pairs xs rises.1 (subst (λ (b : Bool). (b || has_name name xs) ≡ true) apart has))
      ]) refl
