-- Pages in two parts, and what a put or a removal makes of them.
use Rattle.std.proofs.Common.{◌≡◌, ℕ, ◌+◌, ◌/◌, nat_le, Bool, true, false, List, [], ◌∷◌, ◌++◌, length, take, drop, if◌then◌else◌, refl, sym, ◌∙◌, ap, subst}
use Rattle.std.specs.declared.cmp.Ordering.{Ordering}
use Rattle.std.specs.Cmp.{IsTotalOrder}
use Rattle.std.proofs.lemmas.List.{append-nil, append_assoc, take-append-drop}
use Rattle.std.proofs.lemmas.List.Concat.{flat_map-append}
use Rattle.ix_pages.specs.Pairs.{is_before, IsRising, with_pair, without_key}
use Rattle.ix_pages.specs.Paging.{pairs_of, cut, kept, pages_with, pages_without}
use Rattle.ix_pages.proofs.Rising.{rising_right, is_before_left, is_before_right, all_lesser, all_greater, with_pair_left, with_pair_right, without_key_left, without_key_right}

module _ {K V : Type 0} where
  pub pairs_of-append : (front back : List (List (K × V))) → pairs_of (front ++ back) ≡ pairs_of front ++ pairs_of back
  pairs_of-append front back = flat_map-append (λ page. page) front back

  pub pairs_of_cut : (most : ℕ) (page : List (K × V)) → pairs_of (cut most page) ≡ page
  pairs_of_cut most page = cases (nat_le (length page) most)
    where
      cases : (b : Bool) → pairs_of (if b then page ∷ [] else take ((length page + 1) / 2) page ∷ drop ((length page + 1) / 2) page ∷ []) ≡ page
      cases true = append-nil page
      cases false = ap (λ back. take ((length page + 1) / 2) page ++ back) (append-nil (drop ((length page + 1) / 2) page)) ∙ take-append-drop ((length page + 1) / 2) page

  pub pairs_of_kept : (page : List (K × V)) → pairs_of (kept page) ≡ page
  pairs_of_kept [] = refl
  pairs_of_kept (x ∷ xs) = append-nil (x ∷ xs)

module _ {K V : Type 0} (cmp : K → K → Ordering) where
  -- the key is before the second part: the first part takes the pair
  pub pages_with_left : (most : ℕ) (new : K × V) (page : List (K × V)) (front back : List (List (K × V))) → is_before cmp new.0 (pairs_of back) ≡ true → pages_with cmp most ((page ∷ front) ++ back) new ≡ pages_with cmp most (page ∷ front) new ++ back
  pages_with_left most new page [] back before =
      rw before (ap (λ pages. pages ++ back) (sym (append-nil (cut most (with_pair cmp page new)))))
  pages_with_left most new page (next ∷ front) back before =
      let same : is_before cmp new.0 (pairs_of ((next ∷ front) ++ back)) ≡ is_before cmp new.0 (pairs_of (next ∷ front)) =
      ap (is_before cmp new.0) (pairs_of-append (next ∷ front) back) ∙ is_before_left cmp new.0 (pairs_of (next ∷ front)) (pairs_of back) before in
      ap (λ b. if b then cut most (with_pair cmp page new) ++ ((next ∷ front) ++ back) else page ∷ pages_with cmp most ((next ∷ front) ++ back) new) same
      ∙ cases (pages_with_left most new next front back before) (is_before cmp new.0 (pairs_of (next ∷ front)))
    where
      cases : pages_with cmp most ((next ∷ front) ++ back) new ≡ pages_with cmp most (next ∷ front) new ++ back → (b : Bool)
          → (if b then cut most (with_pair cmp page new) ++ ((next ∷ front) ++ back) else page ∷ pages_with cmp most ((next ∷ front) ++ back) new)
          ≡ (if b then cut most (with_pair cmp page new) ++ (next ∷ front) else page ∷ pages_with cmp most (next ∷ front) new) ++ back
      cases rest true = sym (append_assoc (cut most (with_pair cmp page new)) (next ∷ front) back)
      cases rest false = ap (λ pages. page ∷ pages) rest

  pub pages_without_left : (key : K) (page : List (K × V)) (front back : List (List (K × V))) → is_before cmp key (pairs_of back) ≡ true → pages_without cmp ((page ∷ front) ++ back) key ≡ pages_without cmp (page ∷ front) key ++ back
  pages_without_left key page [] back before =
      rw before (ap (λ pages. pages ++ back) (sym (append-nil (kept (without_key cmp page key)))))
  pages_without_left key page (next ∷ front) back before =
      let same : is_before cmp key (pairs_of ((next ∷ front) ++ back)) ≡ is_before cmp key (pairs_of (next ∷ front)) =
      ap (is_before cmp key) (pairs_of-append (next ∷ front) back) ∙ is_before_left cmp key (pairs_of (next ∷ front)) (pairs_of back) before in
      ap (λ b. if b then kept (without_key cmp page key) ++ ((next ∷ front) ++ back) else page ∷ pages_without cmp ((next ∷ front) ++ back) key) same
      ∙ cases (pages_without_left key next front back before) (is_before cmp key (pairs_of (next ∷ front)))
    where
      cases : pages_without cmp ((next ∷ front) ++ back) key ≡ pages_without cmp (next ∷ front) key ++ back → (b : Bool)
          → (if b then kept (without_key cmp page key) ++ ((next ∷ front) ++ back) else page ∷ pages_without cmp ((next ∷ front) ++ back) key)
          ≡ (if b then kept (without_key cmp page key) ++ (next ∷ front) else page ∷ pages_without cmp (next ∷ front) key) ++ back
      cases rest true = sym (append_assoc (kept (without_key cmp page key)) (next ∷ front) back)
      cases rest false = ap (λ pages. page ∷ pages) rest

module _ {K V : Type 0} {cmp : K → K → Ordering} (o : IsTotalOrder cmp) where
  -- the key isn't before the second part: that one takes the pair
  pub pages_with_right : (most : ℕ) (new : K × V) (front back : List (List (K × V))) → IsRising cmp (pairs_of front ++ pairs_of back) → is_before cmp new.0 (pairs_of back) ≡ false → pages_with cmp most (front ++ back) new ≡ front ++ pages_with cmp most back new
  pages_with_right most new [] back rising behind = refl
  pages_with_right most new (page ∷ front) back rising behind =
      let later : IsRising cmp (pairs_of front ++ pairs_of back) = rising_right cmp page (pairs_of front ++ pairs_of back) (subst (IsRising cmp) (append_assoc page (pairs_of front) (pairs_of back)) rising) in
      let test : is_before cmp new.0 (pairs_of (front ++ back)) ≡ false = ap (is_before cmp new.0) (pairs_of-append front back) ∙ is_before_right o new.0 (pairs_of front) (pairs_of back) later behind in
      ap (λ b. if b then cut most (with_pair cmp page new) ++ (front ++ back) else page ∷ pages_with cmp most (front ++ back) new) test
      ∙ ap (λ pages. page ∷ pages) (pages_with_right most new front back later behind)

  pub pages_without_right : (key : K) (front back : List (List (K × V))) → IsRising cmp (pairs_of front ++ pairs_of back) → is_before cmp key (pairs_of back) ≡ false → pages_without cmp (front ++ back) key ≡ front ++ pages_without cmp back key
  pages_without_right key [] back rising behind = refl
  pages_without_right key (page ∷ front) back rising behind =
      let later : IsRising cmp (pairs_of front ++ pairs_of back) = rising_right cmp page (pairs_of front ++ pairs_of back) (subst (IsRising cmp) (append_assoc page (pairs_of front) (pairs_of back)) rising) in
      let test : is_before cmp key (pairs_of (front ++ back)) ≡ false = ap (is_before cmp key) (pairs_of-append front back) ∙ is_before_right o key (pairs_of front) (pairs_of back) later behind in
      ap (λ b. if b then kept (without_key cmp page key) ++ (front ++ back) else page ∷ pages_without cmp (front ++ back) key) test
      ∙ ap (λ pages. page ∷ pages) (pages_without_right key front back later behind)

  -- the pairs of the pages after a put are the pairs after it
  pub pairs_of_with : (most : ℕ) (pages : List (List (K × V))) (new : K × V) → IsRising cmp (pairs_of pages) → pairs_of (pages_with cmp most pages new) ≡ with_pair cmp (pairs_of pages) new
  pairs_of_with most [] new rising = refl
  pairs_of_with most (page ∷ pages) new rising = cases (pairs_of_with most pages new (rising_right cmp page (pairs_of pages) rising)) (is_before cmp new.0 (pairs_of pages)) refl
    where
      cases : pairs_of (pages_with cmp most pages new) ≡ with_pair cmp (pairs_of pages) new → (b : Bool) → is_before cmp new.0 (pairs_of pages) ≡ b
          → pairs_of (if b then cut most (with_pair cmp page new) ++ pages else page ∷ pages_with cmp most pages new) ≡ with_pair cmp (page ++ pairs_of pages) new
      cases rest true test =
          pairs_of-append (cut most (with_pair cmp page new)) pages
          ∙ ap (λ front. front ++ pairs_of pages) (pairs_of_cut most (with_pair cmp page new))
          ∙ sym (with_pair_left cmp new page (pairs_of pages) test)
      cases rest false test =
          ap (λ back. page ++ back) rest
          ∙ sym (with_pair_right cmp new page (pairs_of pages) (all_lesser o new.0 page (pairs_of pages) rising test))

  pub pairs_of_without : (pages : List (List (K × V))) (key : K) → IsRising cmp (pairs_of pages) → pairs_of (pages_without cmp pages key) ≡ without_key cmp (pairs_of pages) key
  pairs_of_without [] key rising = refl
  pairs_of_without (page ∷ pages) key rising = cases (pairs_of_without pages key (rising_right cmp page (pairs_of pages) rising)) (is_before cmp key (pairs_of pages)) refl
    where
      cases : pairs_of (pages_without cmp pages key) ≡ without_key cmp (pairs_of pages) key → (b : Bool) → is_before cmp key (pairs_of pages) ≡ b
          → pairs_of (if b then kept (without_key cmp page key) ++ pages else page ∷ pages_without cmp pages key) ≡ without_key cmp (page ++ pairs_of pages) key
      cases rest true test =
          pairs_of-append (kept (without_key cmp page key)) pages
          ∙ ap (λ front. front ++ pairs_of pages) (pairs_of_kept (without_key cmp page key))
          ∙ sym (without_key_left cmp key page (pairs_of pages) (all_greater o key (pairs_of pages) (rising_right cmp page (pairs_of pages) rising) test))
      cases rest false test =
          ap (λ back. page ++ back) rest
          ∙ sym (without_key_right cmp key page (pairs_of pages) (all_lesser o key page (pairs_of pages) rising test))
