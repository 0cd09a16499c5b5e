-- Counts that are kept in a map and then put into pages in one go.
use Rattle.std.proofs.Common.{◌≡◌, ℕ, zero, suc, ◌+◌, ◌<◌, cond, Option, Some, List, [], ◌∷◌, ◌++◌, map, take, length, get_or, refl, sym, ap, subst, ◌∙◌, arith}
use Rattle.std.specs.declared.cmp.Ordering.TheVariants.{Less, Equal, Greater}
use Rattle.std.specs.Ordering.{match_ordering, ordering_reverse, is_eq}
use Rattle.std.specs.List.{AllByRecursion}
use Rattle.std.specs.List.Sorted.{IsStrictlySortedBy}
use Rattle.std.specs.Map.{keys_of, lookup}
use Rattle.std.specs.BTreeMap.{insert_entry, is_at}
use Rattle.std.proofs.lemmas.Cmp.{nat_list_cmp_total}
use Rattle.std.proofs.lemmas.List.{append_assoc, append-nil, take_more}
use Rattle.ix_types.specs.Row.{text_cmp}
use Rattle.ix_unit.specs.declared.batch.UnitPut.{UnitPut}
use Rattle.ix_unit.specs.declared.value.RecordDep.{RecordDep}
use Rattle.ix_pages.specs.declared.changes.Change.{Change}
use Rattle.ix_pages.specs.declared.changes.Change.TheVariants.{Put, Take}
use Rattle.ix_pages.specs.Pairs.{look_up, with_pair}
use Rattle.ix_pages.specs.Changes.{key_of_change, changed, AreRising}
use Rattle.ix_guard.specs.Counts.{Counts, or_none, count_at, times}
use Rattle.ix_guard.specs.Listing.{names_in, names_in_all, units_put}
use Rattle.ix_guard.specs.Tallied.{puts_of}
use Rattle.ix_guard.proofs.Counting.{names-same, all_with, raised, times-append}

-- ---- a map's entry is a pair

with_inserts : (es : Counts) (k : List ℕ) (n : ℕ) → with_pair text_cmp es (k, n) ≡ insert_entry text_cmp es k n
with_inserts [] k n = refl
with_inserts (e ∷ es) k n =
    (elim (text_cmp k e.0) as (λ r. text_cmp k e.0 ≡ r → match_ordering r ((k, n) ∷ e ∷ es) ((k, n) ∷ es) (e ∷ with_pair text_cmp es (k, n)) ≡ match_ordering r ((k, n) ∷ e ∷ es) ((e.0, n) ∷ es) (e ∷ insert_entry text_cmp es k n)) [
      | Less ↦ λ c. refl
      | Equal ↦ λ c. ap (λ (z : List ℕ). (z, n) ∷ es) (names-same k e.0 c)
      | Greater ↦ λ c. ap (λ (rest : Counts). e ∷ rest) (with_inserts es k n)
    ]) refl

looks : (es : Counts) (k : List ℕ) → look_up text_cmp es k ≡ lookup (is_at (text_cmp k)) es
looks [] k = refl
looks (e ∷ es) k = ap (λ (o : Option ℕ). cond (is_eq (text_cmp k e.0)) (Some e.1) o) (looks es k)

pub count_found : (es : Counts) (k : List ℕ) (o : Option ℕ) → o ≡ lookup (is_at (text_cmp k)) es → or_none o ≡ count_at es k
count_found es k o is = ap or_none (is ∙ sym (looks es k))

pub counted_once : (es after : Counts) (k : List ℕ) (n : ℕ) → after ≡ insert_entry text_cmp es k n → n ≡ count_at es k + 1 → (q : List ℕ) → count_at after q ≡ count_at es q + times q (k ∷ [])
counted_once es after k n is count q = ap (λ (ps : Counts). count_at ps q) (is ∙ sym (with_inserts es k n)) ∙ raised es k n count q

pub needed_once : (es after : Counts) (k : List ℕ) (n : ℕ) → after ≡ insert_entry text_cmp es k n → 0 < n → AllByRecursion (λ pair. 0 < pair.1) es → AllByRecursion (λ pair. 0 < pair.1) after
needed_once es after k n is some all = subst (AllByRecursion (λ pair. 0 < pair.1)) (sym (is ∙ sym (with_inserts es k n))) (all_with (λ pair. 0 < pair.1) k n es some all)

-- ---- the names of one unit more

names_more : (xs : List UnitPut) (x : UnitPut) → names_in_all (units_put (xs ++ x ∷ [])) ≡ names_in_all (units_put xs) ++ names_in x.unit.value
names_more [] x = append-nil (names_in x.unit.value)
names_more (y ∷ ys) x =
    ap (λ (rest : List (List ℕ)). names_in y.unit.value ++ rest) (names_more ys x)
    ∙ sym (append_assoc (names_in y.unit.value) (names_in_all (units_put ys)) (names_in x.unit.value))

next_names : (xs : List UnitPut) (i : ℕ) (x : UnitPut) → i < length xs → x ≡ get_or xs i x
    → names_in_all (units_put (take i xs)) ++ names_in x.unit.value ≡ names_in_all (units_put (take (i + 1) xs))
next_names xs i x below is =
    sym (names_more (take i xs) x)
    ∙ (ap (λ (y : UnitPut). names_in_all (units_put (take i xs ++ y ∷ []))) is
    ∙ ap (λ (ys : List UnitPut). names_in_all (units_put ys)) (sym (take_more xs i x below)))

pub next_count : (xs : List UnitPut) (i : ℕ) (x : UnitPut) → i < length xs → x ≡ get_or xs i x → (before after : Counts)
    → ((q : List ℕ) → count_at before q ≡ times q (names_in_all (units_put (take i xs))))
    → ((q : List ℕ) → count_at after q ≡ count_at before q + times q (names_in x.unit.value))
    → (q : List ℕ) → count_at after q ≡ times q (names_in_all (units_put (take (i + 1) xs)))
next_count xs i x below is before after so_far more q =
    more q
    ∙ (ap (λ (n : ℕ). n + times q (names_in x.unit.value)) (so_far q)
    ∙ (sym (times-append q (names_in_all (units_put (take i xs))) (names_in x.unit.value))
    ∙ ap (times q) (next_names xs i x below is)))

-- ---- puts into an empty map

all_puts : (k : List ℕ) (es : Counts) → AllByRecursion (λ y. text_cmp k y ≡ Less) (keys_of es) → AllByRecursion (λ (later : Change (List ℕ) ℕ). text_cmp k (key_of_change later) ≡ Less) (puts_of es)
all_puts k [] a = tt
all_puts k (e ∷ es) a = (a.0, all_puts k es a.1)

pub puts_rise : (es : Counts) → IsStrictlySortedBy text_cmp (keys_of es) → AreRising text_cmp (puts_of es)
unfolding IsStrictlySortedBy
puts_rise [] rises = tt
puts_rise (e ∷ es) rises = (all_puts e.0 es rises.0, puts_rise es rises.1)

abbrev Is_behind : Counts → List ℕ → Type 0
Is_behind front k = AllByRecursion (λ (pair : List ℕ × ℕ). text_cmp k pair.0 ≡ Greater) front

at_end : (front : Counts) (k : List ℕ) (n : ℕ) → Is_behind front k → with_pair text_cmp front (k, n) ≡ front ++ (k, n) ∷ []
at_end [] k n behind = refl
at_end (e ∷ es) k n behind =
    ap (λ r. match_ordering r ((k, n) ∷ e ∷ es) ((k, n) ∷ es) (e ∷ with_pair text_cmp es (k, n))) behind.0
    ∙ ap (λ (rest : Counts). e ∷ rest) (at_end es k n behind.1)

one_more_behind : (front : Counts) (k q : List ℕ) (n : ℕ) → Is_behind front q → text_cmp k q ≡ Less → Is_behind (front ++ (k, n) ∷ []) q
one_more_behind [] k q n behind less = (nat_list_cmp_total.antisymm q k ∙ ap ordering_reverse less, tt)
one_more_behind (e ∷ es) k q n behind less = (behind.0, one_more_behind es k q n behind.1 less)

all_behind : (front : Counts) (k : List ℕ) (n : ℕ) (ks : List (List ℕ)) → AllByRecursion (Is_behind front) ks → AllByRecursion (λ y. text_cmp k y ≡ Less) ks → AllByRecursion (Is_behind (front ++ (k, n) ∷ [])) ks
all_behind front k n [] behind less = tt
all_behind front k n (q ∷ qs) behind less = (one_more_behind front k q n behind.0 less.0, all_behind front k n qs behind.1 less.1)

put_behind : (front es : Counts) → AllByRecursion (Is_behind front) (keys_of es) → IsStrictlySortedBy text_cmp (keys_of es) → changed text_cmp front (puts_of es) ≡ front ++ es
unfolding IsStrictlySortedBy
put_behind front [] behind rises = sym (append-nil front)
put_behind front (e ∷ es) behind rises =
    ap (λ (ps : Counts). changed text_cmp ps (puts_of es)) (at_end front e.0 e.1 behind.0)
    ∙ (put_behind (front ++ (e.0, e.1) ∷ []) es (all_behind front e.0 e.1 (keys_of es) behind.1 rises.0) rises.1
    ∙ append_assoc front ((e.0, e.1) ∷ []) es)

behind_none : (ks : List (List ℕ)) → AllByRecursion (Is_behind []) ks
behind_none [] = tt
behind_none (k ∷ ks) = (tt, behind_none ks)

pub put_all : (es : Counts) → IsStrictlySortedBy text_cmp (keys_of es) → changed text_cmp [] (puts_of es) ≡ es
put_all es rises = put_behind [] es (behind_none (keys_of es)) rises
