-- Parts side by side: their pages, their first pairs, and the one in which a key is.
use Rattle.std.proofs.Common.{◌≡◌, ◌⊎◌, inl, inr, ℕ, zero, suc, ◌+◌, ◌-◌, ◌<◌, ◌≤◌, true, false, List, [], ◌∷◌, ◌++◌, length, map, drop, get_or, refl, sym, ◌∙◌, ap, subst, Some, arith, slice_get}
use Rattle.std.specs.List.{AllByRecursion}
use Rattle.std.specs.declared.cmp.Ordering.{Ordering}
use Rattle.std.specs.Ordering.{is_lt, is_le}
use Rattle.std.specs.Cmp.{IsTotalOrder}
use Rattle.std.proofs.lemmas.List.{append_assoc, append-nil, length-append}
use Rattle.ix_pages.specs.declared.page.Entry.{Entry}
use Rattle.ix_pages.specs.declared.part.Child.{Child}
use Rattle.ix_pages.specs.Pairs.{is_before, IsRising, look_up, from_key}
use Rattle.ix_pages.specs.Paging.{pairs_of}
use Rattle.ix_pages.specs.Tree.{pair_of, IsFirst, leasts, HaveHeads, IsSameChild, pages_of, IsChild, AreChildren, AreKept}
use Rattle.ix_pages.proofs.Elements.{all_append, all_append_left, all_append_right}
use Rattle.ix_pages.proofs.Paged.{pairs_of-append}
use Rattle.ix_pages.proofs.Trees.{first_in_front, before_first, rising_front, rising_back}
use Rattle.ix_pages.proofs.Searches.{look_in_left, look_in_right, from_in_left, from_in_right}

-- the first of some pairs stands in a page
pub some_pages : {K V : Type 0} (x : K × V) (list : List (List (K × V))) → IsFirst x (pairs_of list) → 0 < length list
some_pages x [] first = absurd (cc)
some_pages x (page ∷ list) first = omega arith

module _ {K V T : Type 0} (pages : T → List (List (K × V))) where
  pub pages_of-append : (front back : List (Child K V T)) → pages_of pages (front ++ back) ≡ pages_of pages front ++ pages_of pages back
  pages_of-append [] back = refl
  pages_of-append (child ∷ front) back =
      ap (λ p. pages child.part.value ++ p) (pages_of-append front back) ∙ sym (append_assoc (pages child.part.value) (pages_of pages front) (pages_of pages back))

  -- one part more at the end
  pub pages_of-push : (front : List (Child K V T)) (child : Child K V T) → pages_of pages (front ++ child ∷ []) ≡ pages_of pages front ++ pages child.part.value
  pages_of-push front child = pages_of-append front (child ∷ []) ∙ ap (λ p. pages_of pages front ++ p) (append-nil (pages child.part.value))

  -- a key is before the pairs of parts exactly where it is before their first pairs
  pub before_leasts : (cmp : K → K → Ordering) (key : K) (whole : T → Type 0) (children : List (Child K V T)) → AreChildren pages whole children
      → is_before cmp key (pairs_of (pages_of pages children)) ≡ is_before cmp key (leasts children)
  before_leasts cmp key whole [] are = refl
  before_leasts cmp key whole (child ∷ children) are =
      before_first cmp key (pair_of child.least) (pairs_of (pages_of pages (child ∷ children)))
      (first_in_front (pair_of child.least) (pages child.part.value) (pages_of pages children) (pages_of pages (child ∷ children)) refl are.0.first)

  -- the same part once more is as it was
  pub same_part : (whole : T → Type 0) (copy child : Child K V T) → IsSameChild copy child → IsChild pages whole child → IsChild pages whole copy
  same_part whole copy child same is = record {
    part = subst whole (sym same.part) is.part;
    first = subst (λ e. IsFirst (e.key, e.value) (pairs_of (pages copy.part.value))) (sym same.least) (subst (λ t. IsFirst (pair_of child.least) (pairs_of (pages t))) (sym same.part) is.first);
    page_count = ap (λ n. n.pages) same.count ∙ is.page_count ∙ ap (λ t. length (pages t)) (sym same.part);
    pair_count = ap (λ n. n.pairs) same.count ∙ is.pair_count ∙ ap (λ t. length (pairs_of (pages t))) (sym same.part);
  }

  -- parts that are kept, one of them more
  pub one_kept : (whole : T → Type 0) (head_of : K → K → ℕ → ℕ) (base : K) (skip : ℕ) (made : List (Child K V T)) (child : Child K V T) → AreKept pages whole head_of base skip made
      → IsChild pages whole child → child.head ≡ head_of child.least.value.key base skip → AreKept pages whole head_of base skip (made ++ child ∷ [])
  one_kept whole head_of base skip made child kept is head = record {
    are = all_append _ made (child ∷ []) kept.are (is, tt);
    heads = all_append _ made (child ∷ []) kept.heads (head, tt);
  }

  pub kept_first : (whole : T → Type 0) (head_of : K → K → ℕ → ℕ) (base : K) (skip : ℕ) (child : Child K V T) (children : List (Child K V T)) → AreKept pages whole head_of base skip (child ∷ children)
      → IsChild pages whole child × (child.head ≡ head_of child.least.value.key base skip) × AreKept pages whole head_of base skip children
  kept_first whole head_of base skip child children kept = (kept.are.0, kept.heads.0, record { are = kept.are.1; heads = kept.heads.1 })

  pub kept_left : (whole : T → Type 0) (head_of : K → K → ℕ → ℕ) (base : K) (skip : ℕ) (front back : List (Child K V T)) → AreKept pages whole head_of base skip (front ++ back) → AreKept pages whole head_of base skip front
  kept_left whole head_of base skip front back kept = record { are = all_append_left _ front back kept.are; heads = all_append_left _ front back kept.heads }

  pub kept_right : (whole : T → Type 0) (head_of : K → K → ℕ → ℕ) (base : K) (skip : ℕ) (front back : List (Child K V T)) → AreKept pages whole head_of base skip (front ++ back) → AreKept pages whole head_of base skip back
  kept_right whole head_of base skip front back kept = record { are = all_append_right _ front back kept.are; heads = all_append_right _ front back kept.heads }

module _ {K V T : Type 0} (pages : T → List (List (K × V))) {cmp : K → K → Ordering} (o : IsTotalOrder cmp) (key : K) (whole : T → Type 0) (children front : List (Child K V T)) (child : Child K V T) (rest : List (Child K V T))
    (is : children ≡ front ++ child ∷ rest) (are : AreChildren pages whole children) (rising : IsRising cmp (pairs_of (pages_of pages children))) where
  pub all_around : pages_of pages children ≡ pages_of pages front ++ (pages child.part.value ++ pages_of pages rest)
  all_around = ap (pages_of pages) is ∙ pages_of-append pages front (child ∷ rest)

  are_behind : AreChildren pages whole (child ∷ rest)
  are_behind = all_append_right _ front (child ∷ rest) (subst (AreChildren pages whole) is are)

  pub child_whole : IsChild pages whole child
  child_whole = are_behind.0

  pub first_behind : IsFirst (pair_of child.least) (pairs_of (pages child.part.value ++ pages_of pages rest))
  first_behind = first_in_front (pair_of child.least) (pages child.part.value) (pages_of pages rest) (pages child.part.value ++ pages_of pages rest) refl are_behind.0.first

  pub rising_behind : IsRising cmp (pairs_of (pages child.part.value ++ pages_of pages rest))
  rising_behind = rising_back cmp (pages_of pages children) (pages_of pages front) (pages child.part.value ++ pages_of pages rest) all_around rising

  pub child_rising : IsRising cmp (pairs_of (pages child.part.value))
  child_rising = rising_front cmp (pages child.part.value ++ pages_of pages rest) (pages child.part.value) (pages_of pages rest) refl rising_behind

  -- a look-up in the part in which a key is
  look_in_rest : (cs : List (Child K V T)) → AreChildren pages whole cs → IsRising cmp (pairs_of (pages child.part.value ++ pages_of pages cs)) → is_before cmp key (leasts cs) ≡ true
      → look_up cmp (pairs_of (pages child.part.value)) key ≡ look_up cmp (pairs_of (pages child.part.value ++ pages_of pages cs)) key
  look_in_rest [] are_cs up before = sym (ap (λ p. look_up cmp (pairs_of p) key) (append-nil (pages child.part.value)))
  look_in_rest (c ∷ cs) are_cs up before =
      sym (look_in_left o key (pair_of c.least) (pages child.part.value) (pages_of pages (c ∷ cs)) (pages child.part.value ++ pages_of pages (c ∷ cs)) refl up
      (first_in_front (pair_of c.least) (pages c.part.value) (pages_of pages cs) (pages_of pages (c ∷ cs)) refl are_cs.0.first) before)

  look_in_all : (front ≡ []) ⊎ (is_lt (cmp key child.least.value.key) ≡ false)
      → look_up cmp (pairs_of (pages child.part.value ++ pages_of pages rest)) key ≡ look_up cmp (pairs_of (pages_of pages children)) key
  look_in_all (inl none) = sym (ap (λ p. look_up cmp (pairs_of p) key) (all_around ∙ ap (λ f. pages_of pages f ++ (pages child.part.value ++ pages_of pages rest)) none))
  look_in_all (inr later) = sym (look_in_right o key (pair_of child.least) (pages_of pages front) (pages child.part.value ++ pages_of pages rest) (pages_of pages children) all_around rising first_behind later)

  pub look_around : (front ≡ []) ⊎ (is_lt (cmp key child.least.value.key) ≡ false) → is_before cmp key (leasts rest) ≡ true
      → look_up cmp (pairs_of (pages child.part.value)) key ≡ look_up cmp (pairs_of (pages_of pages children)) key
  look_around in_front before = look_in_rest rest are_behind.1 rising_behind before ∙ look_in_all in_front

  -- the pairs from a key on, from a place in the part in which it is
  from_in_rest : (cs : List (Child K V T)) → AreChildren pages whole cs → IsRising cmp (pairs_of (pages child.part.value ++ pages_of pages cs)) → is_before cmp key (leasts cs) ≡ true → (page : List (K × V)) (i : ℕ) → i ≤ length (pages child.part.value)
      → page ++ pairs_of (drop i (pages child.part.value)) ≡ from_key cmp (pairs_of (pages child.part.value)) key
      → page ++ pairs_of (drop i (pages child.part.value ++ pages_of pages cs)) ≡ from_key cmp (pairs_of (pages child.part.value ++ pages_of pages cs)) key
  from_in_rest [] are_cs up before page i within known =
      subst (λ p. page ++ pairs_of (drop i p) ≡ from_key cmp (pairs_of p) key) (sym (append-nil (pages child.part.value))) known
  from_in_rest (c ∷ cs) are_cs up before page i within known =
      from_in_left o key (pair_of c.least) (pages child.part.value) (pages_of pages (c ∷ cs)) (pages child.part.value ++ pages_of pages (c ∷ cs)) refl up
      (first_in_front (pair_of c.least) (pages c.part.value) (pages_of pages cs) (pages_of pages (c ∷ cs)) refl are_cs.0.first) before page i within known

  from_in_all : (front ≡ []) ⊎ (is_lt (cmp key child.least.value.key) ≡ false) → (page : List (K × V)) (i j : ℕ) → j ≡ length (pages_of pages front) + i
      → page ++ pairs_of (drop i (pages child.part.value ++ pages_of pages rest)) ≡ from_key cmp (pairs_of (pages child.part.value ++ pages_of pages rest)) key
      → page ++ pairs_of (drop j (pages_of pages children)) ≡ from_key cmp (pairs_of (pages_of pages children)) key
  from_in_all (inl none) page i j at known =
      let same : pages_of pages children ≡ pages child.part.value ++ pages_of pages rest = all_around ∙ ap (λ f. pages_of pages f ++ (pages child.part.value ++ pages_of pages rest)) none in
      let nothing : length (pages_of pages front) ≡ 0 = ap (λ f. length (pages_of pages f)) none in
      let here : j ≡ i = omega (arith, at, nothing) in
      subst (λ p. page ++ pairs_of (drop j p) ≡ from_key cmp (pairs_of p) key) (sym same) (subst (λ n. page ++ pairs_of (drop n (pages child.part.value ++ pages_of pages rest)) ≡ from_key cmp (pairs_of (pages child.part.value ++ pages_of pages rest)) key) (sym here) known)
  from_in_all (inr later) page i j at known =
      from_in_right o key (pair_of child.least) (pages_of pages front) (pages child.part.value ++ pages_of pages rest) (pages_of pages children) all_around rising first_behind later page i j at known

  pub from_around : (front ≡ []) ⊎ (is_lt (cmp key child.least.value.key) ≡ false) → is_before cmp key (leasts rest) ≡ true → (page : List (K × V)) (i j : ℕ) → i ≤ length (pages child.part.value) → j ≡ length (pages_of pages front) + i
      → page ++ pairs_of (drop i (pages child.part.value)) ≡ from_key cmp (pairs_of (pages child.part.value)) key
      → page ++ pairs_of (drop j (pages_of pages children)) ≡ from_key cmp (pairs_of (pages_of pages children)) key
  from_around in_front before page i j within at known = from_in_all in_front page i j at (from_in_rest rest are_behind.1 rising_behind before page i within known)
