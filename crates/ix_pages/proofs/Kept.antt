-- What stays true of pages: the keys rise, and each page has from 1 pair to the most.
use Rattle.std.proofs.Common.{◌≡◌, ℕ, ◌+◌, ◌-◌, ◌/◌, ◌<◌, ◌≤◌, nat_le, Bool, true, false, List, [], ◌∷◌, ◌++◌, length, take, drop, if◌then◌else◌, refl, sym, ◌∙◌, subst, arith}
use Rattle.std.specs.List.{AllByRecursion}
use Rattle.std.specs.declared.cmp.Ordering.{Ordering}
use Rattle.std.specs.declared.cmp.Ordering.TheVariants.{Less, Equal, Greater}
use Rattle.std.specs.Ordering.{is_eq, match_ordering}
use Rattle.std.specs.Cmp.{IsTotalOrder}
use Rattle.std.proofs.lemmas.Bool.{leb-true, leb-false}
use Rattle.std.proofs.lemmas.List.{length-take-le, length-drop}
use Rattle.ix_pages.specs.Pairs.{is_before, IsRising, with_pair, without_key}
use Rattle.ix_pages.specs.Paging.{pairs_of, cut, kept, AreSized, pages_with, pages_without, ArePages}
use Rattle.ix_pages.proofs.Elements.{all_append, all_follow}
use Rattle.ix_pages.proofs.Order.{greater_back}
use Rattle.ix_pages.proofs.Paged.{pairs_of_with, pairs_of_without}

module _ {K V : Type 0} (cmp : K → K → Ordering) where
  pub all_with : (P : K × V → Type 0) (es : List (K × V)) (new : K × V) → AllByRecursion P es → P new → AllByRecursion P (with_pair cmp es new)
  all_with P [] new all here = (here, tt)
  all_with P (x ∷ xs) new all here = cases (all_with P xs new all.1 here) (cmp new.0 x.0)
    where
      cases : AllByRecursion P (with_pair cmp xs new) → (a : Ordering) → AllByRecursion P (match_ordering a (new ∷ x ∷ xs) (new ∷ xs) (x ∷ with_pair cmp xs new))
      cases rest Less = (here, all)
      cases rest Equal = (here, all.1)
      cases rest Greater = (all.0, rest)

  pub all_without : (P : K × V → Type 0) (es : List (K × V)) (key : K) → AllByRecursion P es → AllByRecursion P (without_key cmp es key)
  all_without P [] key all = tt
  all_without P (x ∷ xs) key all = cases (all_without P xs key all.1) (is_eq (cmp key x.0))
    where
      cases : AllByRecursion P (without_key cmp xs key) → (b : Bool) → AllByRecursion P (if b then xs else x ∷ without_key cmp xs key)
      cases rest true = all.1
      cases rest false = (all.0, rest)

  pub rising_without : (es : List (K × V)) (key : K) → IsRising cmp es → IsRising cmp (without_key cmp es key)
  rising_without [] key rising = tt
  rising_without (x ∷ xs) key rising = cases (rising_without xs key rising.1) (is_eq (cmp key x.0))
    where
      cases : IsRising cmp (without_key cmp xs key) → (b : Bool) → IsRising cmp (if b then xs else x ∷ without_key cmp xs key)
      cases rest true = rising.1
      cases rest false = (all_without (λ later. cmp x.0 later.0 ≡ Less) xs key rising.0, rest)

  length_with : (es : List (K × V)) (new : K × V) → (0 < length (with_pair cmp es new)) × (length (with_pair cmp es new) ≤ length es + 1)
  length_with [] new = (omega arith, omega arith)
  length_with (x ∷ xs) new = cases (length_with xs new) (cmp new.0 x.0)
    where
      cases : (0 < length (with_pair cmp xs new)) × (length (with_pair cmp xs new) ≤ length xs + 1) → (a : Ordering)
          → (0 < length (match_ordering a (new ∷ x ∷ xs) (new ∷ xs) (x ∷ with_pair cmp xs new))) × (length (match_ordering a (new ∷ x ∷ xs) (new ∷ xs) (x ∷ with_pair cmp xs new)) ≤ length (x ∷ xs) + 1)
      cases rest Less = (omega arith, omega arith)
      cases rest Equal = (omega arith, omega arith)
      cases rest Greater = (omega arith, omega (arith, rest.1))

  length_without : (es : List (K × V)) (key : K) → length (without_key cmp es key) ≤ length es
  length_without [] key = omega arith
  length_without (x ∷ xs) key = cases (length_without xs key) (is_eq (cmp key x.0))
    where
      cases : length (without_key cmp xs key) ≤ length xs → (b : Bool) → length (if b then xs else x ∷ without_key cmp xs key) ≤ length (x ∷ xs)
      cases rest true = omega arith
      cases rest false = omega arith

module _ {K V : Type 0} where
  sized_cut : (most : ℕ) (page : List (K × V)) → 0 < most → 0 < length page → length page ≤ most + 1 → AreSized most (cut most page)
  sized_cut most page room some few = cases (nat_le (length page) most) refl
    where
      cases : (b : Bool) → nat_le (length page) most ≡ b → AreSized most (if b then page ∷ [] else take ((length page + 1) / 2) page ∷ drop ((length page + 1) / 2) page ∷ [])
      cases true test = ((some, leb-true (length page) most test), tt)
      cases false test =
          let over : most < length page = leb-false (length page) most test in
          let half : ((length page + 1) / 2 < length page) × (0 < (length page + 1) / 2) × ((length page + 1) / 2 ≤ most) × (length page - (length page + 1) / 2 ≤ most) = (omega arith, omega arith, omega arith, omega arith) in
          let within : (length page + 1) / 2 ≤ length page = omega (arith, half.0) in
          let front = length-take-le ((length page + 1) / 2) page within in
          let back = length-drop ((length page + 1) / 2) page in
          ((omega (arith, front, half.1), omega (arith, front, half.2)), ((omega (arith, back, half.0), omega (arith, back, half.3)), tt))

  pub sized_kept : (most : ℕ) (page : List (K × V)) → length page ≤ most → AreSized most (kept page)
  sized_kept most [] few = tt
  sized_kept most (x ∷ xs) few = ((omega arith, few), tt)

module _ {K V : Type 0} (cmp : K → K → Ordering) where
  sized_with : (most : ℕ) (pages : List (List (K × V))) (new : K × V) → 0 < most → AreSized most pages → AreSized most (pages_with cmp most pages new)
  sized_with most [] new room sized = ((omega arith, omega arith), tt)
  sized_with most (page ∷ pages) new room sized = cases (sized_with most pages new room sized.1) (is_before cmp new.0 (pairs_of pages))
    where
      cases : AreSized most (pages_with cmp most pages new) → (b : Bool) → AreSized most (if b then cut most (with_pair cmp page new) ++ pages else page ∷ pages_with cmp most pages new)
      cases rest true =
          let long = length_with cmp page new in
          all_append _ (cut most (with_pair cmp page new)) pages (sized_cut most (with_pair cmp page new) room long.0 (omega (arith, long.1, sized.0.1))) sized.1
      cases rest false = (sized.0, rest)

  sized_without : (most : ℕ) (pages : List (List (K × V))) (key : K) → AreSized most pages → AreSized most (pages_without cmp pages key)
  sized_without most [] key sized = tt
  sized_without most (page ∷ pages) key sized = cases (sized_without most pages key sized.1) (is_before cmp key (pairs_of pages))
    where
      cases : AreSized most (pages_without cmp pages key) → (b : Bool) → AreSized most (if b then kept (without_key cmp page key) ++ pages else page ∷ pages_without cmp pages key)
      cases rest true = all_append _ (kept (without_key cmp page key)) pages (sized_kept most (without_key cmp page key) (omega (arith, length_without cmp page key, sized.0.1))) sized.1
      cases rest false = (sized.0, rest)

module _ {K V : Type 0} {cmp : K → K → Ordering} (o : IsTotalOrder cmp) where
  pub rising_with : (es : List (K × V)) (new : K × V) → IsRising cmp es → IsRising cmp (with_pair cmp es new)
  rising_with [] new rising = (tt, tt)
  rising_with (x ∷ xs) new rising = cases (rising_with xs new rising.1) (cmp new.0 x.0) refl
    where
      cases : IsRising cmp (with_pair cmp xs new) → (a : Ordering) → cmp new.0 x.0 ≡ a → IsRising cmp (match_ordering a (new ∷ x ∷ xs) (new ∷ xs) (x ∷ with_pair cmp xs new))
      cases rest Less less = ((less, all_follow _ _ (λ y above. o.trans new.0 x.0 y.0 less above) xs rising.0), rising)
      cases rest Equal equal = (all_follow _ _ (λ y above. o.congr new.0 x.0 y.0 equal ∙ above) xs rising.0, rising.1)
      cases rest Greater greater = (all_with cmp (λ later. cmp x.0 later.0 ≡ Less) xs new rising.0 (greater_back o new.0 x.0 greater), rest)

  pub are_pages_with : (most : ℕ) (pages : List (List (K × V))) (new : K × V) → 0 < most → ArePages cmp most pages → ArePages cmp most (pages_with cmp most pages new)
  are_pages_with most pages new room are = record {
    sized = sized_with cmp most pages new room are.sized;
    rising = subst (IsRising cmp) (sym (pairs_of_with o most pages new are.rising)) (rising_with (pairs_of pages) new are.rising);
  }

  pub are_pages_without : (most : ℕ) (pages : List (List (K × V))) (key : K) → ArePages cmp most pages → ArePages cmp most (pages_without cmp pages key)
  are_pages_without most pages key are = record {
    sized = sized_without cmp most pages key are.sized;
    rising = subst (IsRising cmp) (sym (pairs_of_without o pages key are.rising)) (rising_without cmp (pairs_of pages) key are.rising);
  }
