-- Lists of files in rising order of name.
use Rattle.std.proofs.Common.{◌≡◌, ℕ, Bool, true, false, cond, List, [], ◌∷◌, refl, ap, ◌∙◌, Some, None}
use Rattle.std.specs.declared.cmp.Ordering.{Ordering}
use Rattle.std.specs.declared.cmp.Ordering.TheVariants.{Less, Equal, Greater}
use Rattle.std.specs.List.{AllByRecursion}
use Rattle.std.specs.List.Sorted.{IsStrictlySortedBy}
use Rattle.std.specs.Map.{lookup, keys_of}
use Rattle.std.specs.BTreeMap.{is_at}
use Rattle.std.specs.Ordering.{is_lt, is_eq, ordering_reverse, eq_by_cmp}
use Rattle.std.specs.Cmp.{tied_itself}
use Rattle.std.specs.Cmp.Lexicographic.{nat_list_cmp_total}
use Rattle.std.specs.FinMap.{find, is_sorted}
use Rattle.std.specs.FinMap.Entries.{below_all}
use Rattle.std.proofs.lemmas.Bool.{and_parts}
use Rattle.ix_types.specs.Row.{text_cmp}

less : (o : Ordering) → is_lt o ≡ true → o ≡ Less
less Less e = refl
less Equal e = cc
less Greater e = cc

pub tied : (name : List ℕ) → eq_by_cmp text_cmp name name ≡ true
tied name = ap is_eq (tied_itself nat_list_cmp_total name)

pub not_tied : (x y : List ℕ) → is_lt (text_cmp x y) ≡ true → eq_by_cmp text_cmp y x ≡ false
not_tied x y h = ap is_eq (nat_list_cmp_total.antisymm y x ∙ ap ordering_reverse (less (text_cmp x y) h))

module _ {X : Type 0} where
  below : (x : List ℕ) (es : List (List ℕ × X)) → below_all text_cmp x es ≡ true → AllByRecursion (λ y. text_cmp x y ≡ Less) (keys_of es)
  below x [] h = tt
  below x (e ∷ es) h =
      let parts = and_parts (is_lt (text_cmp x e.0)) (below_all text_cmp x es) h in
      (less (text_cmp x e.0) parts.0, below x es parts.1)

  pub rising_keys : (es : List (List ℕ × X)) → is_sorted text_cmp es ≡ true → IsStrictlySortedBy text_cmp (keys_of es)
  unfolding IsStrictlySortedBy
  rising_keys [] h = tt
  rising_keys (e ∷ es) h =
      let parts = and_parts (below_all text_cmp e.0 es) (is_sorted text_cmp es) h in
      (below e.0 es parts.0, rising_keys es parts.1)

  -- a look-up by a test is one by order
  pub lookup_is_find : (name : List ℕ) (es : List (List ℕ × X)) → lookup (is_at (text_cmp name)) es ≡ find text_cmp name es
  lookup_is_find name [] = refl
  lookup_is_find name (e ∷ es) = ap (cond (is_eq (text_cmp name e.0)) (Some e.1)) (lookup_is_find name es)

  -- what is below all names of a list isn't among them
  pub not_found : (x : List ℕ) (es : List (List ℕ × X)) → below_all text_cmp x es ≡ true → find text_cmp x es ≡ None
  not_found x [] h = refl
  not_found x (e ∷ es) h =
      let parts = and_parts (is_lt (text_cmp x e.0)) (below_all text_cmp x es) h in
      let other : eq_by_cmp text_cmp x e.0 ≡ false = ap is_eq (less (text_cmp x e.0) parts.0) in
      ap (λ (b : Bool). cond b (Some e.1) (find text_cmp x es)) other ∙ not_found x es parts.1

  -- each entry is found by its name
  abbrev pub IsIn : List (List ℕ × X) → List ℕ × X → Type 0
  IsIn es e = find text_cmp e.0 es ≡ Some e.1

  in_more : (first : List ℕ × X) (whole es : List (List ℕ × X)) → below_all text_cmp first.0 es ≡ true → AllByRecursion (IsIn whole) es → AllByRecursion (IsIn (first ∷ whole)) es
  in_more first whole [] h all = tt
  in_more first whole (e ∷ es) h all =
      let parts = and_parts (is_lt (text_cmp first.0 e.0)) (below_all text_cmp first.0 es) h in
      let other : eq_by_cmp text_cmp e.0 first.0 ≡ false = not_tied first.0 e.0 parts.0 in
      (ap (λ (b : Bool). cond b (Some first.1) (find text_cmp e.0 whole)) other ∙ all.0, in_more first whole es parts.1 all.1)

  pub all_in : (es : List (List ℕ × X)) → is_sorted text_cmp es ≡ true → AllByRecursion (IsIn es) es
  all_in [] h = tt
  all_in (e ∷ es) h =
      let parts = and_parts (below_all text_cmp e.0 es) (is_sorted text_cmp es) h in
      (ap (λ (b : Bool). cond b (Some e.1) (find text_cmp e.0 es)) (tied e.0), in_more e es es parts.0 (all_in es parts.1))
