-- The need list of some units is the only list with their counts, and has the names that they need.
use Rattle.std.proofs.Common.{◌≡◌, ℕ, zero, suc, ◌<◌, Bool, true, false, cond, ◌||◌, ◌⊎◌, inl, inr, List, [], ◌∷◌, map, Some, refl, sym, ap, subst, ◌∙◌, arith}
use Rattle.std.specs.declared.cmp.Ordering.TheVariants.{Less}
use Rattle.std.specs.Ordering.{is_eq, ordering_reverse}
use Rattle.std.specs.List.{AllByRecursion}
use Rattle.std.specs.List.Sorted.{IsStrictlySortedBy}
use Rattle.std.specs.Str.{bytes_eq}
use Rattle.std.proofs.lemmas.Cmp.{nat_list_cmp_total}
use Rattle.ix_types.specs.Row.{text_cmp}
use Rattle.ix_pages.specs.Pairs.{IsRising, look_up}
use Rattle.ix_model.specs.SortedSet.{IsSortedSetOf}
use Rattle.ix_model.specs.Units.{Units, needs}
use Rattle.ix_machine.specs.Needs.{has_name}
use Rattle.ix_guard.specs.Counts.{Counts, count_at, or_none, names_of, times}
use Rattle.ix_guard.specs.Listing.{names_in_all, need_list_of, IsNeedListOf}
use Rattle.ix_guard.proofs.Counting.{ties_itself, is_itself, same_or_apart}
use Rattle.ix_guard.proofs.Naming.{there_once, once_there, there_has, all_of}

differ : {b : Bool} → b ≡ true → b ≡ false → ⊥
differ e f = cc

none_of : (n : ℕ) → (0 < n → ⊥) → 0 ≡ n
none_of zero h = refl
none_of (suc n) h = absurd (h (omega arith))

-- ---- pairs of a name and what f gives for it

abbrev pairs_by : (List ℕ → ℕ) → List (List ℕ) → Counts
pairs_by f xs = map (λ x. (x, f x)) xs

module _ (f : List ℕ → ℕ) where
  names_of_pairs : (xs : List (List ℕ)) → names_of (pairs_by f xs) ≡ xs
  names_of_pairs [] = refl
  names_of_pairs (x ∷ xs) = ap (λ (ys : List (List ℕ)). x ∷ ys) (names_of_pairs xs)

  all_later : (k : List ℕ) (xs : List (List ℕ)) → AllByRecursion (λ y. text_cmp k y ≡ Less) xs → AllByRecursion (λ (later : List ℕ × ℕ). text_cmp k later.0 ≡ Less) (pairs_by f xs)
  all_later k [] a = tt
  all_later k (x ∷ xs) a = (a.0, all_later k xs a.1)

  pairs_rise : (xs : List (List ℕ)) → IsStrictlySortedBy text_cmp xs → IsRising text_cmp (pairs_by f xs)
  unfolding IsStrictlySortedBy
  pairs_rise [] rises = tt
  pairs_rise (x ∷ xs) rises = (all_later x xs rises.0, pairs_rise xs rises.1)

  pairs_needed : (xs : List (List ℕ)) → AllByRecursion (λ x. 0 < f x) xs → AllByRecursion (λ (pair : List ℕ × ℕ). 0 < pair.1) (pairs_by f xs)
  pairs_needed [] a = tt
  pairs_needed (x ∷ xs) a = (a.0, pairs_needed xs a.1)

  pairs_count : (xs : List (List ℕ)) (q : List ℕ) → count_at (pairs_by f xs) q ≡ cond (has_name q xs) (f q) 0
  pairs_count [] q = refl
  pairs_count (x ∷ xs) q = go (same_or_apart x q) (pairs_count xs q)
    where
      go : (x ≡ q) ⊎ ((is_eq (text_cmp q x) ≡ false) × (bytes_eq x q ≡ false)) → count_at (pairs_by f xs) q ≡ cond (has_name q xs) (f q) 0
          → or_none (cond (is_eq (text_cmp q x)) (Some (f x)) (look_up text_cmp (pairs_by f xs) q)) ≡ cond (bytes_eq x q || has_name q xs) (f q) 0
      go (inl e) rest =
          subst (λ (z : List ℕ). or_none (cond (is_eq (text_cmp q z)) (Some (f z)) (look_up text_cmp (pairs_by f xs) q)) ≡ cond (bytes_eq z q || has_name q xs) (f q) 0) (sym e)
          (ap (λ b. or_none (cond b (Some (f q)) (look_up text_cmp (pairs_by f xs) q))) (ties_itself q) ∙ sym (ap (λ b. cond (b || has_name q xs) (f q) 0) (is_itself q)))
      go (inr ne) rest =
          ap (λ b. or_none (cond b (Some (f x)) (look_up text_cmp (pairs_by f xs) q))) ne.0 ∙ (rest ∙ sym (ap (λ b. cond (b || has_name q xs) (f q) 0) ne.1))

  all_pairs : (es : Counts) → AllByRecursion (λ (pair : List ℕ × ℕ). f pair.0 ≡ pair.1) es → es ≡ pairs_by f (names_of es)
  all_pairs [] a = refl
  all_pairs (e ∷ es) a = ap (λ (n : ℕ). (e.0, n) ∷ es) (sym a.0) ∙ ap (λ (rest : Counts). (e.0, f e.0) ∷ rest) (all_pairs es a.1)

pairs_same : (f g : List ℕ → ℕ) → ((x : List ℕ) → f x ≡ g x) → (xs : List (List ℕ)) → pairs_by f xs ≡ pairs_by g xs
pairs_same f g h [] = refl
pairs_same f g h (x ∷ xs) = ap (λ (n : ℕ). (x, n) ∷ pairs_by f xs) (h x) ∙ ap (λ (rest : Counts). (x, g x) ∷ rest) (pairs_same f g h xs)

-- ---- the counts of a list of pairs that rise are those in it

lesser_apart : (k q : List ℕ) → text_cmp k q ≡ Less → is_eq (text_cmp q k) ≡ false
lesser_apart k q less = ap is_eq (nat_list_cmp_total.antisymm q k ∙ ap ordering_reverse less)

passed : (e : List ℕ × ℕ) (es ps : Counts) → AllByRecursion (λ (later : List ℕ × ℕ). text_cmp e.0 later.0 ≡ Less) ps → AllByRecursion (λ (pair : List ℕ × ℕ). count_at es pair.0 ≡ pair.1) ps → AllByRecursion (λ (pair : List ℕ × ℕ). count_at (e ∷ es) pair.0 ≡ pair.1) ps
passed e es [] a b = tt
passed e es (p ∷ ps) a b = (ap (λ t. or_none (cond t (Some e.1) (look_up text_cmp es p.0))) (lesser_apart e.0 p.0 a.0) ∙ b.0, passed e es ps a.1 b.1)

own_counts : (es : Counts) → IsRising text_cmp es → AllByRecursion (λ (pair : List ℕ × ℕ). count_at es pair.0 ≡ pair.1) es
own_counts [] rises = tt
own_counts (e ∷ es) rises = (ap (λ b. or_none (cond b (Some e.1) (look_up text_cmp es e.0))) (ties_itself e.0), passed e es es rises.0 (own_counts es rises.1))

-- ---- the need list

pub names_of_list : (units : Units) → names_of (need_list_of units) ≡ needs units
unfolding need_list_of
names_of_list units = names_of_pairs (λ x. times x (names_in_all units)) (needs units)

pub is_the_list : (counts : Counts) (units : Units) → IsNeedListOf counts units → names_of counts ≡ needs units → counts ≡ need_list_of units
unfolding need_list_of
is_the_list counts units list names =
    all_pairs (count_at counts) counts (own_counts counts list.sound.rises)
    ∙ (pairs_same (count_at counts) (λ x. times x (names_in_all units)) list.each (names_of counts)
    ∙ ap (pairs_by (λ x. times x (names_in_all units))) names)

pub is_listed : (units : Units) → IsSortedSetOf text_cmp (names_in_all units) (needs units) → IsNeedListOf (need_list_of units) units
unfolding need_list_of
is_listed units set = record {
  sound = record {
    rises = pairs_rise (λ x. times x (names_in_all units)) (needs units) set.rises;
    needed = pairs_needed (λ x. times x (names_in_all units)) (needs units) (all_of (λ x. 0 < times x (names_in_all units)) (needs units) (λ x c. once_there x (names_in_all units) ((set.same x).0 c)));
  };
  each = λ q. pairs_count (λ x. times x (names_in_all units)) (needs units) q ∙ chosen q (has_name q (needs units)) refl;
}
  where
    chosen : (q : List ℕ) (b : Bool) → has_name q (needs units) ≡ b → cond b (times q (names_in_all units)) 0 ≡ times q (names_in_all units)
    chosen q true e = refl
    chosen q false e = none_of (times q (names_in_all units)) (λ some. differ (there_has q (needs units) ((set.same q).1 (there_once q (names_in_all units) some))) e)
