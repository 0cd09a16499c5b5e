-- What std's sort and `dedup` leave is the sorted set.
use Rattle.std.proofs.Common.{◌≡◌, ℕ, inl, inr, Bool, true, false, cond, List, [], ◌∷◌, map, Contains, refl, sym, ap, ◌∙◌, subst}
use Rattle.std.specs.declared.cmp.Ordering.{Ordering}
use Rattle.std.specs.declared.cmp.Ordering.TheVariants.{Less, Equal, Greater}
use Rattle.std.specs.Ordering.{is_eq, eq_by_cmp}
use Rattle.std.specs.Cmp.{IsTotalOrder, IsEquivalence}
use Rattle.std.specs.FinMap.{IsAntisymmetric}
use Rattle.std.specs.List.{AllByRecursion, IsDistinct, dedup, dedup_from}
use Rattle.std.specs.List.Retain.{IsFiltered, DiffersFromLast}
use Rattle.std.specs.List.Sorted.{IsSorted, IsStrictlySortedBy, IsPermutation}
use Rattle.std.specs.Cmp.Lexicographic.{nat_list_eq_equiv}
use Rattle.std.specs.Str.{bytes_eq}
use Rattle.std.proofs.lemmas.List.Filters.{dedup_is}
use Rattle.std.proofs.lemmas.List.Kept.{IsStrictlySortedBy-dedup, Contains-dedup, Contains-from_dedup}
use Rattle.std.proofs.lemmas.List.Sorted.{Contains-permutation, IsPermutation-sym}
use Rattle.std.proofs.lemmas.Map.Keys.{IsDistinct-IsPermutation, IsDistinct-head, IsDistinct-tail}
use Rattle.std.proofs.lemmas.Map.Text.{is_eq-slice_cmp}
use Rattle.ix_types.specs.Row.{text_cmp}
use Rattle.ix_record.specs.declared.value.Symbol.{Symbol}
use Rattle.ix_record.specs.Order.{symbol_cmp}
use Rattle.ix_plan.specs.declared.plan.SymbolPlan.{SymbolPlan}
use Rattle.ix_plan.specs.Keeps.{HaveOwnUsrs}
use Rattle.ix_model.specs.SortedSet.{sorted_set, IsSortedSetOf}
use Rattle.ix_model.proofs.Door.{is_sorted_set, all_in_sorted_set, keys_of_sorted_set}
use Rattle.ix_model.proofs.SortedSet.{Has, Has-from_Contains, Contains-from_Has, same_set}
use Rattle.ix_jobs.specs.Made.{symbol_of, symbols_of}
use Rattle.ix_jobs.proofs.Orders.{text_total, text_exact, symbol_total}

equal-from_is : (r : Ordering) → is_eq r ≡ true → r ≡ Equal
equal-from_is Less e = absurd (cc)
equal-from_is Equal e = refl
equal-from_is Greater e = absurd (cc)

module _ {X : Type 0} (cmp : X → X → Ordering) (eq : X → X → Bool) (o : IsTotalOrder cmp) (exact : IsAntisymmetric cmp) (ties : (x y : X) → eq x y ≡ eq_by_cmp cmp x y) (same_as : IsEquivalence eq) where
  equal : (x y : X) → eq x y ≡ true → x ≡ y
  equal x y e = exact x y (equal-from_is (cmp x y) (sym (ties x y) ∙ e))

  pub sorted_and_deduped : (items sorted final : List X) → IsPermutation items sorted → IsSorted cmp sorted → IsFiltered (DiffersFromLast eq) [] sorted final → final ≡ sorted_set cmp items
  sorted_and_deduped items sorted final moved rises dropped =
      let is : final ≡ dedup eq sorted = dedup_is eq sorted final dropped in
      same_set cmp o items final (sorted_set cmp items)
      (record {
        rises = subst (λ (xs : List X). IsStrictlySortedBy cmp xs) (sym is) (IsStrictlySortedBy-dedup o ties sorted rises);
        same = λ x. (
          λ c. Contains-permutation sorted items x (IsPermutation-sym items sorted moved) (Contains-from_dedup eq sorted x (subst (λ (xs : List X). Contains xs x) is c)),
          λ c. subst (λ (xs : List X). Contains xs x) (sym is) (Contains-dedup same_as equal sorted x (Contains-permutation items sorted x moved c)),
        );
      })
      (is_sorted_set cmp o exact items)

-- ---- symbols, of which no two have one USR

abbrev pub same_usr : Symbol → Symbol → Bool
same_usr a b = bytes_eq a.usr b.usr

usr_ties : (a b : Symbol) → same_usr a b ≡ eq_by_cmp symbol_cmp a b
usr_ties a b = sym (is_eq-slice_cmp a.usr b.usr)

module _ {X : Type 0} (eq : X → X → Bool) (flips : (x y : X) → eq x y ≡ eq y x) where
  kept_from : (x : X) (xs : List X) → IsDistinct eq (x ∷ xs) → dedup_from eq x xs ≡ x ∷ xs
  kept_from x [] d = refl
  kept_from x (y ∷ ys) d =
      ap (λ (b : Bool). cond b (dedup_from eq x ys) (x ∷ dedup_from eq y ys)) (flips y x ∙ (IsDistinct-head eq x (y ∷ ys) d).0)
      ∙ ap (λ (rest : List X). x ∷ rest) (kept_from y ys (IsDistinct-tail eq x (y ∷ ys) d))

  kept : (xs : List X) → IsDistinct eq xs → dedup eq xs ≡ xs
  kept [] d = refl
  kept (x ∷ xs) d = kept_from x xs d

others_apart : (plan : SymbolPlan) (plans : List SymbolPlan) → AllByRecursion (λ usr. bytes_eq plan.usr usr ≡ false) (map (λ p. p.usr) plans) → AllByRecursion (λ s. same_usr (symbol_of plan) s ≡ false) (map symbol_of plans)
others_apart plan [] a = tt
others_apart plan (p ∷ ps) a = (a.0, others_apart plan ps a.1)

all_apart : (plans : List SymbolPlan) → HaveOwnUsrs plans → IsDistinct same_usr (map symbol_of plans)
unfolding IsDistinct
all_apart [] d = tt
all_apart (p ∷ ps) d = (others_apart p ps d.0, all_apart ps d.1)

usr_flips : (a b : Symbol) → same_usr a b ≡ same_usr b a
usr_flips a b = nat_list_eq_equiv.symm a.usr b.usr

-- in a list whose USRs differ, symbols of one USR are one
apart_from : (ys : List Symbol) (y z : Symbol) → AllByRecursion (λ s. same_usr y s ≡ false) ys → Has ys z → same_usr y z ≡ false
apart_from [] y z all m = absurd m
apart_from (w ∷ ws) y z all (inl p) = ap (same_usr y) (sym p) ∙ all.0
apart_from (w ∷ ws) y z all (inr m) = apart_from ws y z all.1 m

not_both : (y z : Symbol) → same_usr y z ≡ true → same_usr y z ≡ false → ⊥
not_both y z p q = cc

one_of_usr : (xs : List Symbol) → IsDistinct same_usr xs → (a b : Symbol) → Has xs a → Has xs b → same_usr a b ≡ true → a ≡ b
one_of_usr [] d a b h k e = absurd h
one_of_usr (x ∷ xs) d a b (inl p) (inl q) e = sym p ∙ q
one_of_usr (x ∷ xs) d a b (inl p) (inr m) e =
    absurd (not_both x b (ap (λ (s : Symbol). same_usr s b) p ∙ e) (apart_from xs x b (IsDistinct-head same_usr x xs d) m))
one_of_usr (x ∷ xs) d a b (inr m) (inl q) e =
    absurd (not_both x a (ap (λ (s : Symbol). same_usr s a) q ∙ (usr_flips b a ∙ e)) (apart_from xs x a (IsDistinct-head same_usr x xs d) m))
one_of_usr (x ∷ xs) d a b (inr m) (inr n) e = one_of_usr xs (IsDistinct-tail same_usr x xs d) a b m n e

abbrev pub usr_of : Symbol → List ℕ
usr_of s = s.usr

has_usr : (xs : List Symbol) (s : Symbol) → Has xs s → Has (map usr_of xs) s.usr
has_usr [] s h = h
has_usr (x ∷ xs) s (inl e) = inl (ap usr_of e)
has_usr (x ∷ xs) s (inr h) = inr (has_usr xs s h)

of_usr : (xs : List Symbol) (usr : List ℕ) → Has (map usr_of xs) usr → (s : Symbol) × Has xs s × (s.usr ≡ usr)
of_usr [] usr h = absurd h
of_usr (x ∷ xs) usr (inl e) = (x, inl refl, e)
of_usr (x ∷ xs) usr (inr h) = let r = of_usr xs usr h in (r.0, inr r.1, r.2)

all_behind : (x : Symbol) (xs : List Symbol) → AllByRecursion (λ usr. text_cmp x.usr usr ≡ Less) (map usr_of xs) → AllByRecursion (λ s. symbol_cmp x s ≡ Less) xs
all_behind x [] a = tt
all_behind x (y ∷ ys) a = (a.0, all_behind x ys a.1)

rising_usrs : (xs : List Symbol) → IsStrictlySortedBy text_cmp (map usr_of xs) → IsStrictlySortedBy symbol_cmp xs
unfolding IsStrictlySortedBy
rising_usrs [] r = tt
rising_usrs (x ∷ xs) r = (all_behind x xs r.0, rising_usrs xs r.1)

pub usrs_of_set : (xs : List Symbol) → map usr_of (sorted_set symbol_cmp xs) ≡ sorted_set text_cmp (map usr_of xs)
usrs_of_set xs = keys_of_sorted_set usr_of text_cmp xs

each_is_in : (xs all : List Symbol) → ((x : Symbol) → Has xs x → Has all x) → AllByRecursion (Has all) xs
each_is_in [] all h = tt
each_is_in (x ∷ xs) all h = (h x (inl refl), each_is_in xs all (λ y k. h y (inr k)))

at : (P : Symbol → Type 0) (xs : List Symbol) (x : Symbol) → AllByRecursion P xs → Has xs x → P x
at P [] x a h = absurd h
at P (y ∷ ys) x a (inl e) = subst P e a.0
at P (y ∷ ys) x a (inr h) = at P ys x a.1 h

from_set : (xs : List Symbol) (x : Symbol) → Has (sorted_set symbol_cmp xs) x → Has xs x
from_set xs x h = at (Has xs) (sorted_set symbol_cmp xs) x (all_in_sorted_set symbol_cmp (Has xs) xs (each_is_in xs xs (λ y k. k))) h

same_bytes : (a b : List ℕ) → a ≡ b → bytes_eq a b ≡ true
same_bytes a b e = subst (λ (c : List ℕ). bytes_eq a c ≡ true) e (nat_list_eq_equiv.refl a)

into_set : (xs : List Symbol) → IsDistinct same_usr xs → (x : Symbol) → Has xs x → Has (sorted_set symbol_cmp xs) x
into_set xs d x h =
    let usrs = map usr_of xs in
    let there : Has (sorted_set text_cmp usrs) x.usr = Has-from_Contains (sorted_set text_cmp usrs) x.usr (((is_sorted_set text_cmp text_total text_exact usrs).same x.usr).1 (Contains-from_Has usrs x.usr (has_usr xs x h))) in
    let found = of_usr (sorted_set symbol_cmp xs) x.usr (subst (λ (us : List (List ℕ)). Has us x.usr) (sym (usrs_of_set xs)) there) in
    subst (λ (s : Symbol). Has (sorted_set symbol_cmp xs) s) (one_of_usr xs d found.0 x (from_set xs found.0 found.1) h (same_bytes found.0.usr x.usr found.2)) found.1

-- the sorted set of symbols with USRs of their own has each of them
pub set_of_symbols : (xs : List Symbol) → IsDistinct same_usr xs → IsSortedSetOf symbol_cmp xs (sorted_set symbol_cmp xs)
set_of_symbols xs d = record {
  rises = rising_usrs (sorted_set symbol_cmp xs) (subst (λ (us : List (List ℕ)). IsStrictlySortedBy text_cmp us) (sym (usrs_of_set xs)) (is_sorted_set text_cmp text_total text_exact (map usr_of xs)).rises);
  same = λ x. (
    λ c. Contains-from_Has xs x (from_set xs x (Has-from_Contains (sorted_set symbol_cmp xs) x c)),
    λ c. Contains-from_Has (sorted_set symbol_cmp xs) x (into_set xs d x (Has-from_Contains xs x c)),
  );
}

pub planned_symbols : (plans : List SymbolPlan) → HaveOwnUsrs plans → IsSortedSetOf symbol_cmp (map symbol_of plans) (symbols_of plans)
planned_symbols plans own = set_of_symbols (map symbol_of plans) (all_apart plans own)

-- sorted by USR, they are the sorted set
pub sorted_symbols : (plans : List SymbolPlan) (items sorted : List Symbol) → HaveOwnUsrs plans → items ≡ map symbol_of plans → IsPermutation items sorted → IsSorted symbol_cmp sorted → sorted ≡ symbols_of plans
sorted_symbols plans items sorted own is moved rises =
    let apart : IsDistinct same_usr items = subst (λ (xs : List Symbol). IsDistinct same_usr xs) (sym is) (all_apart plans own) in
    let stay : dedup same_usr sorted ≡ sorted = kept same_usr usr_flips sorted (IsDistinct-IsPermutation same_usr usr_flips items sorted moved apart) in
    same_set symbol_cmp symbol_total items sorted (sorted_set symbol_cmp items)
    (record {
      rises = subst (λ (xs : List Symbol). IsStrictlySortedBy symbol_cmp xs) stay (IsStrictlySortedBy-dedup symbol_total usr_ties sorted rises);
      same = λ x. (Contains-permutation sorted items x (IsPermutation-sym items sorted moved), Contains-permutation items sorted x moved);
    })
    (set_of_symbols items apart)
    ∙ ap (sorted_set symbol_cmp) is
