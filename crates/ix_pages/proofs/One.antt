-- One change in one go is a put or a removal, and none changes nothing.
use Rattle.std.proofs.Common.{◌≡◌, ℕ, zero, suc, ◌+◌, ◌/◌, ◌<◌, ◌≤◌, nat_le, Bool, true, false, List, [], ◌∷◌, ◌++◌, length, map, take, drop, if◌then◌else◌, refl, sym, ◌∙◌, ap, subst, arith}
use Rattle.std.specs.declared.cmp.Ordering.{Ordering}
use Rattle.std.specs.declared.cmp.Ordering.TheVariants.{Less, Equal, Greater}
use Rattle.std.specs.Ordering.{is_eq, match_ordering}
use Rattle.std.proofs.lemmas.Bool.{leb-true, leb-false}
use Rattle.std.proofs.lemmas.List.{append-nil, length-take-le, length-drop}
use Rattle.ix_pages.specs.declared.bulk.Edit.{Edit}
use Rattle.ix_pages.specs.declared.changes.Change.TheVariants.{Put, Take}
use Rattle.ix_pages.specs.Pairs.{is_before, with_pair, without_key}
use Rattle.ix_pages.specs.Paging.{pairs_of, cut, kept, AreSized, pages_with, pages_without}
use Rattle.ix_pages.specs.Changes.{cut_often, pages_changed}
use Rattle.ix_pages.specs.Edits.{change_of}
use Rattle.ix_pages.proofs.Halves.{cut_often_few, cut_often_over}
use Rattle.ix_pages.proofs.Changing.{none_changed}

module _ {K V : Type 0} where
  -- some pairs are one page
  kept_some : (page : List (K × V)) → 0 < length page → kept page ≡ page ∷ []
  kept_some [] some = absurd (omega arith)
  kept_some (x ∷ xs) some = refl

  -- one pair too many is cut once
  pub cut_once : (most : ℕ) (page : List (K × V)) → 1 < most → 0 < length page → length page ≤ most + 1 → cut_often most page ≡ cut most page
  cut_once most page room some few = cases (nat_le (length page) most) refl
    where
      half : ℕ
      half = (length page + 1) / 2

      cases : (b : Bool) → nat_le (length page) most ≡ b → cut_often most page ≡ (if b then page ∷ [] else take ((length page + 1) / 2) page ∷ drop ((length page + 1) / 2) page ∷ [])
      cases true test = cut_often_few most page (leb-true (length page) most test) ∙ kept_some page some
      cases false test =
          let over : most < length page = leb-false (length page) most test in
          let within : (length page + 1) / 2 ≤ length page = omega arith in
          let front = length-take-le ((length page + 1) / 2) page within in
          let back = length-drop ((length page + 1) / 2) page in
          cut_often_over most page (omega (arith, room)) over
          ∙ ap (λ p. p ++ cut_often most (drop ((length page + 1) / 2) page)) (cut_often_few most (take ((length page + 1) / 2) page) (omega (arith, front, few, room)) ∙ kept_some (take ((length page + 1) / 2) page) (omega (arith, front, over, room)))
          ∙ ap (λ p. take ((length page + 1) / 2) page ∷ p) (cut_often_few most (drop ((length page + 1) / 2) page) (omega (arith, back, few, room)) ∙ kept_some (drop ((length page + 1) / 2) page) (omega (arith, back, over, room)))

module _ {K V : Type 0} (cmp : K → K → Ordering) where
  -- a put makes a page longer by one pair at most
  longer : (pairs : List (K × V)) (new : K × V) → (0 < length (with_pair cmp pairs new)) × (length (with_pair cmp pairs new) ≤ length pairs + 1)
  longer [] new = (omega arith, omega arith)
  longer (x ∷ xs) new = cases (longer xs new) (cmp new.0 x.0)
    where
      cases : (0 < length (with_pair cmp xs new)) × (length (with_pair cmp xs new) ≤ length xs + 1) → (r : Ordering)
          → (0 < length (match_ordering r (new ∷ x ∷ xs) (new ∷ xs) (x ∷ with_pair cmp xs new))) × (length (match_ordering r (new ∷ x ∷ xs) (new ∷ xs) (x ∷ with_pair cmp xs new)) ≤ length (x ∷ xs) + 1)
      cases known Less = (omega arith, omega arith)
      cases known Equal = (omega arith, omega arith)
      cases known Greater = (omega arith, omega (arith, known.1))

  shorter : (pairs : List (K × V)) (key : K) → length (without_key cmp pairs key) ≤ length pairs
  shorter [] key = omega arith
  shorter (x ∷ xs) key = cases (shorter xs key) (is_eq (cmp key x.0))
    where
      cases : length (without_key cmp xs key) ≤ length xs → (b : Bool) → length (if b then xs else x ∷ without_key cmp xs key) ≤ length (x ∷ xs)
      cases known true = omega arith
      cases known false = omega (arith, known)

  pub no_change : (most : ℕ) (pages : List (List (K × V))) (edits : List (Edit K V)) → length edits ≡ 0 → pages_changed cmp most pages (map change_of edits) ≡ pages
  no_change most pages [] none = none_changed cmp most pages
  no_change most pages (e ∷ edits) none = absurd (omega (arith, none))

  pub one_put : (most : ℕ) (pages : List (List (K × V))) (key : K) (value : V) → 1 < most → AreSized most pages → pages_changed cmp most pages (Put key value ∷ []) ≡ pages_with cmp most pages (key, value)
  one_put most [] key value room sized = cut_often_few most ((key, value) ∷ []) (omega (arith, room))
  one_put most (page ∷ pages) key value room sized = cases (one_put most pages key value room sized.1) (is_before cmp key (pairs_of pages)) refl
    where
      grown : length (with_pair cmp page (key, value)) ≤ most + 1
      grown = omega (arith, (longer page (key, value)).1, sized.0.1)

      cases : pages_changed cmp most pages (Put key value ∷ []) ≡ pages_with cmp most pages (key, value) → (b : Bool) → is_before cmp key (pairs_of pages) ≡ b → pages_changed cmp most (page ∷ pages) (Put key value ∷ []) ≡ (if b then cut most (with_pair cmp page (key, value)) ++ pages else page ∷ pages_with cmp most pages (key, value))
      cases rest true test =
          rw test (ap (λ p. cut_often most (with_pair cmp page (key, value)) ++ p) (none_changed cmp most pages)
          ∙ ap (λ p. p ++ pages) (cut_once most (with_pair cmp page (key, value)) room (longer page (key, value)).0 grown))
      cases rest false test = rw test (ap (λ p. page ∷ p) rest)

  pub one_taken : (most : ℕ) (pages : List (List (K × V))) (key : K) → AreSized most pages → pages_changed cmp most pages (Take key ∷ []) ≡ pages_without cmp pages key
  one_taken most [] key sized = refl
  one_taken most (page ∷ pages) key sized = cases (one_taken most pages key sized.1) (is_before cmp key (pairs_of pages)) refl
    where
      few : length (without_key cmp page key) ≤ most
      few = omega (arith, shorter page key, sized.0.1)

      cases : pages_changed cmp most pages (Take key ∷ []) ≡ pages_without cmp pages key → (b : Bool) → is_before cmp key (pairs_of pages) ≡ b → pages_changed cmp most (page ∷ pages) (Take key ∷ []) ≡ (if b then kept (without_key cmp page key) ++ pages else page ∷ pages_without cmp pages key)
      cases rest true test =
          rw test (ap (λ p. cut_often most (without_key cmp page key) ++ p) (none_changed cmp most pages)
          ∙ ap (λ p. p ++ pages) (cut_often_few most (without_key cmp page key) few))
      cases rest false test = rw test (ap (λ p. page ∷ p) rest)
