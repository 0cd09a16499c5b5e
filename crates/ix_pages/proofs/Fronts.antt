-- Edits in front of some parts, and pages as parts.
use Rattle.std.proofs.Common.{◌≡◌, ◌⊎◌, inl, inr, ℕ, ◌+◌, ◌<◌, ◌≤◌, true, false, not, List, [], ◌∷◌, ◌++◌, length, map, take, drop, refl, sym, ◌∙◌, ap, subst, Some, None, slice_get}
use Rattle.std.specs.List.{AllByRecursion}
use Rattle.std.specs.declared.cmp.Ordering.{Ordering}
use Rattle.std.specs.declared.sync.Arc.{Arc}
use Rattle.std.specs.declared.alloc.Global.{Global}
use Rattle.std.specs.Ordering.{is_lt}
use Rattle.std.specs.Cmp.{IsTotalOrder}
use Rattle.std.proofs.lemmas.List.{length-map, length-append}
use Rattle.ix_pages.specs.declared.page.Entry.{Entry}
use Rattle.ix_pages.specs.declared.part.Child.{Child}
use Rattle.ix_pages.specs.declared.part.Leaf.{Leaf}
use Rattle.ix_pages.specs.declared.bulk.Edit.{Edit}
use Rattle.ix_pages.specs.Pairs.{is_before, IsRising, look_up, from_key}
use Rattle.ix_pages.specs.Paging.{pairs_of, kept}
use Rattle.ix_pages.specs.Changes.{key_of_change, changes_before, changes_behind, cut_often, changed, pages_changed}
use Rattle.ix_pages.specs.Tree.{pair_of, leasts, leaf_pages, pages_of, AreChildren}
use Rattle.ix_pages.specs.Edits.{change_of}
use Rattle.ix_pages.proofs.Elements.{all_append_left, all_follow}
use Rattle.ix_pages.proofs.Filters.{filter_keeps, filter_drops}
use Rattle.ix_pages.proofs.Changing.{one_page_changed}
use Rattle.ix_pages.proofs.Children.{pages_of-push, all_around, child_whole, child_rising, look_around, from_around}
use Rattle.ix_pages.proofs.Forks.{all_in_front}

pub none_first : {X : Type 0} (xs : List X) → None ≡ slice_get xs 0 → xs ≡ []
none_first [] is = refl
none_first (x ∷ xs) is = absurd (cc)

module _ {K V : Type 0} where
  -- a page behind others
  pub page_pushed : (made after : List (Child K V (Leaf K V))) (child : Child K V (Leaf K V)) (entries : List (Arc (Entry K V) Global)) (first : Arc (Entry K V) Global) → Some first ≡ slice_get entries 0 → after ≡ made ++ child ∷ [] → child.part.value.entries.items ≡ entries
      → pages_of leaf_pages after ≡ pages_of leaf_pages made ++ kept (map pair_of entries)
  page_pushed made after child [] first some pushed is = absurd (cc)
  page_pushed made after child (e ∷ es) first some pushed is =
      ap (pages_of leaf_pages) pushed ∙ pages_of-push leaf_pages made child ∙ ap (λ l. pages_of leaf_pages made ++ (map pair_of l ∷ [])) is

  -- a page with its edits
  pub leaf_changed : (cmp : K → K → Ordering) (most : ℕ) (entries own : List (Arc (Entry K V) Global)) (edits : List (Edit K V)) → 0 < length edits → own ≡ entries
      → cut_often most (changed cmp (map pair_of own) (map change_of edits)) ≡ pages_changed cmp most (map pair_of entries ∷ []) (map change_of edits)
  leaf_changed cmp most entries own edits some is =
      let long : 0 < length (map change_of edits) = subst (λ n. 0 < n) (sym (length-map edits change_of)) some in
      ap (λ es. cut_often most (changed cmp (map pair_of es) (map change_of edits))) is ∙ sym (one_page_changed cmp most (map pair_of entries) (map change_of edits) long)

module _ {K V T : Type 0} (cmp : K → K → Ordering) (children : List (Child K V T)) (edits own : List (Edit K V)) (few : (children ≡ []) ⊎ (length edits ≤ 1))
    (first : AllByRecursion (λ change. is_before cmp (key_of_change change) (leasts children) ≡ true) (take 1 (map change_of edits))) where
  all_before : AllByRecursion (λ change. is_before cmp (key_of_change change) (leasts children) ≡ true) (map change_of edits)
  all_before = all_in_front cmp children (map change_of edits) (fewer few) first
    where
      fewer : (children ≡ []) ⊎ (length edits ≤ 1) → (children ≡ []) ⊎ (length (map change_of edits) ≤ 1)
      fewer (inl none) = inl none
      fewer (inr less) = inr (subst (λ n. n ≤ 1) (sym (length-map edits change_of)) less)

  pub before_all : own ≡ edits → map change_of own ≡ changes_before cmp (leasts children) (map change_of edits)
  before_all is = ap (map change_of) is ∙ sym (filter_keeps (λ change. is_before cmp (key_of_change change) (leasts children)) (map change_of edits) all_before)

  pub behind_none : own ≡ [] → map change_of own ≡ changes_behind cmp (leasts children) (map change_of edits)
  behind_none is = ap (map change_of) is ∙ sym (filter_drops (λ change. not (is_before cmp (key_of_change change) (leasts children))) (map change_of edits) (all_follow _ _ (λ change yes. ap not yes) (map change_of edits) all_before))

-- what is known of the part in which a key is
module _ {K V T : Type 0} (pages : T → List (List (K × V))) {cmp : K → K → Ordering} (o : IsTotalOrder cmp) (key : K) (whole : T → Type 0) (children front : List (Child K V T)) (child : Child K V T) (rest : List (Child K V T)) (part : T)
    (is : children ≡ front ++ child ∷ rest) (are : AreChildren pages whole children) (rising : IsRising cmp (pairs_of (pages_of pages children))) (at : part ≡ child.part.value) where
  pub part_whole : whole part
  part_whole = subst whole (sym at) (child_whole pages o key whole children front child rest is are rising).part

  pub part_rising : IsRising cmp (pairs_of (pages part))
  part_rising = subst (λ t. IsRising cmp (pairs_of (pages t))) (sym at) (child_rising pages o key whole children front child rest is are rising)

  pub front_whole : AreChildren pages whole front
  front_whole = all_append_left _ front (child ∷ rest) (subst (AreChildren pages whole) is are)

  pub look_in_part : (front ≡ []) ⊎ (is_lt (cmp key child.least.value.key) ≡ false) → is_before cmp key (leasts rest) ≡ true → (found : List (K × V)) → look_up cmp found key ≡ look_up cmp (pairs_of (pages part)) key
      → look_up cmp found key ≡ look_up cmp (pairs_of (pages_of pages children)) key
  look_in_part place before found known =
      known ∙ ap (λ t. look_up cmp (pairs_of (pages t)) key) at ∙ look_around pages o key whole children front child rest is are rising place before

  pub all_pages : length (pages_of pages children) ≡ length (pages_of pages front) + (length (pages part) + length (pages_of pages rest))
  all_pages =
      ap length (all_around pages o key whole children front child rest is are rising)
      ∙ length-append (pages_of pages front) (pages child.part.value ++ pages_of pages rest)
      ∙ ap (λ n. length (pages_of pages front) + n) (length-append (pages child.part.value) (pages_of pages rest))
      ∙ ap (λ t. length (pages_of pages front) + (length (pages t) + length (pages_of pages rest))) (sym at)

  pub start_in_part : (front ≡ []) ⊎ (is_lt (cmp key child.least.value.key) ≡ false) → is_before cmp key (leasts rest) ≡ true → (page : List (K × V)) (i n : ℕ) → i ≤ length (pages part) → n ≡ length (pages_of pages front)
      → page ++ pairs_of (drop i (pages part)) ≡ from_key cmp (pairs_of (pages part)) key
      → page ++ pairs_of (drop (n + i) (pages_of pages children)) ≡ from_key cmp (pairs_of (pages_of pages children)) key
  start_in_part place before page i n within counted known =
      from_around pages o key whole children front child rest is are rising place before page i (n + i) (subst (λ t. i ≤ length (pages t)) at within) (ap (λ m. m + i) counted)
      (subst (λ t. page ++ pairs_of (drop i (pages t)) ≡ from_key cmp (pairs_of (pages t)) key) at known)
