-- Pages: the first pair, pages in two parts, and the pairs from a page on.
use Rattle.std.proofs.Common.{◌≡◌, ℕ, zero, suc, ◌+◌, ◌≤◌, List, [], ◌∷◌, ◌++◌, length, drop, refl, sym, ◌∙◌, ap, subst, Some, arith, slice_get}
use Rattle.std.specs.declared.cmp.Ordering.{Ordering}
use Rattle.std.specs.Ordering.{is_lt}
use Rattle.ix_pages.specs.Pairs.{is_before, IsRising}
use Rattle.ix_pages.specs.Paging.{pairs_of}
use Rattle.ix_pages.specs.Tree.{IsFirst}
use Rattle.ix_pages.proofs.Rising.{rising_left, rising_right}
use Rattle.ix_pages.proofs.Paged.{pairs_of-append}

module _ {K V : Type 0} where
  first_left : (x : K × V) (xs ys : List (K × V)) → IsFirst x xs → IsFirst x (xs ++ ys)
  first_left x [] ys first = absurd (cc)
  first_left x (z ∷ zs) ys first = first

  -- what is first stays so where more pages stand behind
  pub first_in_front : (x : K × V) (front back pages : List (List (K × V))) → pages ≡ front ++ back → IsFirst x (pairs_of front) → IsFirst x (pairs_of pages)
  first_in_front x front back pages is first = subst (λ p. IsFirst x p) (sym (ap pairs_of is ∙ pairs_of-append front back)) (first_left x (pairs_of front) (pairs_of back) first)

  pub before_first : (cmp : K → K → Ordering) (key : K) (least : K × V) (pairs : List (K × V)) → IsFirst least pairs → is_before cmp key pairs ≡ is_lt (cmp key least.0)
  before_first cmp key least [] first = absurd (cc)
  before_first cmp key least (x ∷ xs) first = let same : x ≡ least = cc in ap (λ y. is_lt (cmp key y.0)) same

  pub rising_front : (cmp : K → K → Ordering) (pages front back : List (List (K × V))) → pages ≡ front ++ back → IsRising cmp (pairs_of pages) → IsRising cmp (pairs_of front)
  rising_front cmp pages front back is rising = rising_left cmp (pairs_of front) (pairs_of back) (subst (IsRising cmp) (ap pairs_of is ∙ pairs_of-append front back) rising)

  pub rising_back : (cmp : K → K → Ordering) (pages front back : List (List (K × V))) → pages ≡ front ++ back → IsRising cmp (pairs_of pages) → IsRising cmp (pairs_of back)
  rising_back cmp pages front back is rising = rising_right cmp (pairs_of front) (pairs_of back) (subst (IsRising cmp) (ap pairs_of is ∙ pairs_of-append front back) rising)

module _ {K V : Type 0} where
  -- the pairs from a page on
  pub from_page : (pages : List (List (K × V))) (i : ℕ) (page : List (K × V)) → slice_get pages i ≡ Some page → pairs_of (drop i pages) ≡ page ++ pairs_of (drop (i + 1) pages)
  from_page [] i page at = absurd (cc)
  from_page (p ∷ ps) zero page at = let same : p ≡ page = cc in ap (λ q. q ++ pairs_of ps) same
  from_page (p ∷ ps) (suc i) page at =
      let next : suc i + 1 ≡ suc (i + 1) = omega arith in
      from_page ps i page at ∙ sym (ap (λ n. page ++ pairs_of (drop n (p ∷ ps))) next)

  pub past_pages : (pages : List (List (K × V))) (i : ℕ) → length pages ≤ i → pairs_of (drop i pages) ≡ []
  past_pages [] zero past = refl
  past_pages [] (suc i) past = refl
  past_pages (p ∷ ps) zero past = absurd (omega arith)
  past_pages (p ∷ ps) (suc i) past = past_pages ps i (omega arith)
