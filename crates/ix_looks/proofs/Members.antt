-- What lists contain: maps, flat maps, and look-ups by a name.
use Rattle.std.proofs.Common.{◌≡◌, ℕ, zero, suc, ◌<◌, ◌⊎◌, inl, inr, true, false, List, [], ◌∷◌, ◌++◌, length, map, Some, Contains, refl, sym, ap, ◌∙◌, subst, arith, slice_index_or}
use Rattle.std.specs.Ordering.{is_eq}
use Rattle.std.specs.declared.cmp.Ordering.TheVariants.{Less}
use Rattle.std.specs.List.{flat_map, AllByRecursion}
use Rattle.std.specs.List.Sorted.{IsStrictlySortedBy}
use Rattle.std.specs.Map.{keys_of, lookup}
use Rattle.std.specs.BTreeMap.{is_at}
use Rattle.std.proofs.lemmas.Cmp.{eq_by_cmp_equiv, nat_list_cmp_total}
use Rattle.std.proofs.lemmas.Map.Entries.{lookup_head, lookup_tail}
use Rattle.ix_types.specs.Row.{text_cmp}

-- the list has the element, by cases on the list
abbrev pub Has : {X : Type 0} → List X → X → Type 0
Has [] x = ⊥
Has (y ∷ ys) x = (y ≡ x) ⊎ Has ys x

has_at : {X : Type 0} (xs : List X) (x : X) (k : ℕ) → k < length xs → slice_index_or xs k x ≡ x → Has xs x
has_at [] x k below is = absurd (omega arith)
has_at (y ∷ ys) x zero below is = inl is
has_at (y ∷ ys) x (suc k) below is = inr (has_at ys x k (omega arith) is)

pub has : {X : Type 0} (xs : List X) (x : X) → Contains xs x → Has xs x
has xs x c = has_at xs x c.0 c.1 c.2

later : {X : Type 0} (y : X) (ys : List X) (x : X) → Contains ys x → Contains (y ∷ ys) x
later y ys x c = (suc c.0, omega (arith, c.1), c.2)

pub contains : {X : Type 0} (xs : List X) (x : X) → Has xs x → Contains xs x
contains [] x h = absurd h
contains (y ∷ ys) x (inl e) = (zero, omega arith, e)
contains (y ∷ ys) x (inr h) = later y ys x (contains ys x h)

append_left : {X : Type 0} (xs ys : List X) (x : X) → Has xs x → Has (xs ++ ys) x
append_left [] ys x h = absurd h
append_left (z ∷ zs) ys x (inl e) = inl e
append_left (z ∷ zs) ys x (inr h) = inr (append_left zs ys x h)

append_right : {X : Type 0} (xs ys : List X) (x : X) → Has ys x → Has (xs ++ ys) x
append_right [] ys x h = h
append_right (z ∷ zs) ys x h = inr (append_right zs ys x h)

behind : {X : Type 0} (z : X) (zs ys : List X) (x : X) → Has zs x ⊎ Has ys x → ((z ≡ x) ⊎ Has zs x) ⊎ Has ys x
behind z zs ys x (inl h) = inl (inr h)
behind z zs ys x (inr h) = inr h

append_cases : {X : Type 0} (xs ys : List X) (x : X) → Has (xs ++ ys) x → Has xs x ⊎ Has ys x
append_cases [] ys x h = inr h
append_cases (z ∷ zs) ys x (inl e) = inl (inl e)
append_cases (z ∷ zs) ys x (inr h) = behind z zs ys x (append_cases zs ys x h)

module _ {X Y : Type 0} (f : X → Y) where
  pub map_in : (xs : List X) (x : X) (y : Y) → Has xs x → f x ≡ y → Has (map f xs) y
  map_in [] x y h e = absurd h
  map_in (z ∷ zs) x y (inl p) e = inl (ap f p ∙ e)
  map_in (z ∷ zs) x y (inr h) e = inr (map_in zs x y h e)

  pub map_out : (xs : List X) (y : Y) → Has (map f xs) y → (x : X) × Has xs x × (f x ≡ y)
  map_out [] y h = absurd h
  map_out (z ∷ zs) y (inl e) = (z, inl refl, e)
  map_out (z ∷ zs) y (inr h) = let r = map_out zs y h in (r.0, inr r.1, r.2)

module _ {X Y : Type 0} (f : X → List Y) where
  pub flat_map_in : (xs : List X) (x : X) (y : Y) → Has xs x → Has (f x) y → Has (flat_map f xs) y
  flat_map_in [] x y h k = absurd h
  flat_map_in (z ∷ zs) x y (inl e) k = append_left (f z) (flat_map f zs) y (subst (λ (w : X). Has (f w) y) (sym e) k)
  flat_map_in (z ∷ zs) x y (inr h) k = append_right (f z) (flat_map f zs) y (flat_map_in zs x y h k)

  flat_map_cases : (z : X) (zs : List X) (y : Y) → ((Has (flat_map f zs) y) → (x : X) × Has zs x × Has (f x) y) → Has (f z) y ⊎ Has (flat_map f zs) y → (x : X) × Has (z ∷ zs) x × Has (f x) y
  flat_map_cases z zs y rest (inl h) = (z, inl refl, h)
  flat_map_cases z zs y rest (inr h) = let r = rest h in (r.0, inr r.1, r.2)

  pub flat_map_out : (xs : List X) (y : Y) → Has (flat_map f xs) y → (x : X) × Has xs x × Has (f x) y
  flat_map_out [] y h = absurd h
  flat_map_out (z ∷ zs) y h = flat_map_cases z zs y (λ k. flat_map_out zs y k) (append_cases (f z) (flat_map f zs) y h)

-- ---- look-ups by a name

module _ {X : Type 0} where
  -- what is found is of an entry
  pub found_entry : (es : List (List ℕ × X)) (name : List ℕ) (x : X) → lookup (is_at (text_cmp name)) es ≡ Some x → (e : List ℕ × X) × Has es e × (e.1 ≡ x)
  found_entry [] name x is = absurd (cc)
  found_entry (e ∷ es) name x is =
      (elim (is_at (text_cmp name) e.0) as (λ b. is_at (text_cmp name) e.0 ≡ b → (o : List ℕ × X) × Has (e ∷ es) o × (o.1 ≡ x)) [
        | true ↦ λ at. let there = sym (lookup_head (is_at (text_cmp name)) e es at) ∙ is in let same : e.1 ≡ x = cc in (e, inl refl, same)
        | false ↦ λ at. let r = found_entry es name x (sym (lookup_tail (is_at (text_cmp name)) e es at) ∙ is) in (r.0, inr r.1, r.2)
      ]) refl

  above : (low : List ℕ) (es : List (List ℕ × X)) (e : List ℕ × X) → AllByRecursion (λ y. text_cmp low y ≡ Less) (keys_of es) → Has es e → text_cmp low e.0 ≡ Less
  above low [] e all h = absurd h
  above low (x ∷ xs) e all (inl p) = subst (λ (o : List ℕ × X). text_cmp low o.0 ≡ Less) p all.0
  above low (x ∷ xs) e all (inr h) = above low xs e all.1 h

  -- each entry is found, where the names rise
  pub entry_found : (es : List (List ℕ × X)) (e : List ℕ × X) → IsStrictlySortedBy text_cmp (keys_of es) → Has es e → lookup (is_at (text_cmp e.0)) es ≡ Some e.1
  unfolding IsStrictlySortedBy
  entry_found [] e rises h = absurd h
  entry_found (x ∷ xs) e rises (inl p) =
      subst (λ (o : List ℕ × X). lookup (is_at (text_cmp o.0)) (x ∷ xs) ≡ Some o.1) p (lookup_head (is_at (text_cmp x.0)) x xs ((eq_by_cmp_equiv nat_list_cmp_total).refl x.0))
  entry_found (x ∷ xs) e rises (inr h) =
      let apart : is_at (text_cmp e.0) x.0 ≡ false = (eq_by_cmp_equiv nat_list_cmp_total).symm e.0 x.0 ∙ ap is_eq (above x.0 xs e rises.0 h) in
      lookup_tail (is_at (text_cmp e.0)) x xs apart ∙ entry_found xs e rises.1 h
