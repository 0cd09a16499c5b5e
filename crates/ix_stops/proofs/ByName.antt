-- Lists in rising order of name.
use Rattle.std.proofs.Common.{◌≡◌, ℕ, Bool, true, false, cond, ◌&&◌, List, [], ◌∷◌, refl, ap, ◌∙◌, Some}
use Rattle.std.specs.declared.cmp.Ordering.{Ordering}
use Rattle.std.specs.declared.cmp.Ordering.TheVariants.{Less, Equal, Greater}
use Rattle.std.specs.List.{AllByRecursion}
use Rattle.std.specs.List.Sorted.{IsStrictlySortedBy}
use Rattle.std.specs.Map.{lookup, keys_of}
use Rattle.std.specs.BTreeMap.{is_at}
use Rattle.std.specs.Ordering.{is_lt, is_eq, ordering_reverse, eq_by_cmp}
use Rattle.std.specs.Cmp.{tied_itself}
use Rattle.std.specs.Cmp.Lexicographic.{nat_list_cmp_total}
use Rattle.std.specs.FinMap.{find, is_sorted}
use Rattle.std.specs.FinMap.Entries.{below_all}
use Rattle.std.proofs.lemmas.Bool.{and_parts}
use Rattle.ix_types.specs.Row.{text_cmp}

less : (o : Ordering) → is_lt o ≡ true → o ≡ Less
less Less e = refl
less Equal e = cc
less Greater e = cc

pub tied : (name : List ℕ) → eq_by_cmp text_cmp name name ≡ true
tied name = ap is_eq (tied_itself nat_list_cmp_total name)

not_tied : (x y : List ℕ) → is_lt (text_cmp x y) ≡ true → eq_by_cmp text_cmp y x ≡ false
not_tied x y h = ap is_eq (nat_list_cmp_total.antisymm y x ∙ ap ordering_reverse (less (text_cmp x y) h))

module _ {X : Type 0} where
  -- a look-up by a test is one by order
  pub lookup_is_find : (name : List ℕ) (es : List (List ℕ × X)) → lookup (is_at (text_cmp name)) es ≡ find text_cmp name es
  lookup_is_find name [] = refl
  lookup_is_find name (e ∷ es) = ap (cond (is_eq (text_cmp name e.0)) (Some e.1)) (lookup_is_find name es)

  -- each entry is found by its name
  abbrev pub IsIn : List (List ℕ × X) → List ℕ × X → Type 0
  IsIn es e = find text_cmp e.0 es ≡ Some e.1

  in_more : (first : List ℕ × X) (whole es : List (List ℕ × X)) → below_all text_cmp first.0 es ≡ true → AllByRecursion (IsIn whole) es → AllByRecursion (IsIn (first ∷ whole)) es
  in_more first whole [] h all = tt
  in_more first whole (e ∷ es) h all =
      let parts = and_parts (is_lt (text_cmp first.0 e.0)) (below_all text_cmp first.0 es) h in
      let other : eq_by_cmp text_cmp e.0 first.0 ≡ false = not_tied first.0 e.0 parts.0 in
      (ap (λ (b : Bool). cond b (Some first.1) (find text_cmp e.0 whole)) other ∙ all.0, in_more first whole es parts.1 all.1)

  pub all_in : (es : List (List ℕ × X)) → is_sorted text_cmp es ≡ true → AllByRecursion (IsIn es) es
  all_in [] h = tt
  all_in (e ∷ es) h =
      let parts = and_parts (below_all text_cmp e.0 es) (is_sorted text_cmp es) h in
      (ap (λ (b : Bool). cond b (Some e.1) (find text_cmp e.0 es)) (tied e.0), in_more e es es parts.0 (all_in es parts.1))

  is_below : (x : List ℕ) (es : List (List ℕ × X)) → AllByRecursion (λ y. text_cmp x y ≡ Less) (keys_of es) → below_all text_cmp x es ≡ true
  is_below x [] all = refl
  is_below x (e ∷ es) all = ap (λ (o : Ordering). is_lt o && below_all text_cmp x es) all.0 ∙ is_below x es all.1

  pub rising_sorted : (es : List (List ℕ × X)) → IsStrictlySortedBy text_cmp (keys_of es) → is_sorted text_cmp es ≡ true
  unfolding IsStrictlySortedBy
  rising_sorted [] h = refl
  rising_sorted (e ∷ es) h = ap (λ (b : Bool). b && is_sorted text_cmp es) (is_below e.0 es h.0) ∙ rising_sorted es h.1
