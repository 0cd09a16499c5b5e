-- Pages that are cut as often as is needed.
use Rattle.std.proofs.Common.{◌≡◌, ℕ, zero, suc, ◌+◌, ◌-◌, ◌/◌, ◌<◌, ◌≤◌, nat_le, Bool, true, false, List, ◌++◌, length, map, take, drop, if◌then◌else◌, refl, sym, ◌∙◌, ap, arith}
use Rattle.std.proofs.lemmas.Bool.{leb-true, leb-false, lt-leb, le-leb}
use Rattle.std.proofs.lemmas.List.{length-take-le, length-drop, length-map, take-map, drop-map, take-append-drop}
use Rattle.ix_pages.specs.Paging.{pairs_of, kept, AreSized}
use Rattle.ix_pages.specs.Changes.{halves, cut_often}
use Rattle.ix_pages.proofs.Elements.{all_append}
use Rattle.ix_pages.proofs.Paged.{pairs_of-append, pairs_of_kept}
use Rattle.ix_pages.proofs.Kept.{sized_kept}

module _ {K V : Type 0} where
  pub halves_few : (most rounds : ℕ) (page : List (K × V)) → length page ≤ most → halves most rounds page ≡ kept page
  halves_few most zero page few = refl
  halves_few most (suc rounds) page few = rw (le-leb (length page) most few) refl

  -- the halves of a page of at least two pairs are shorter
  shorter : (page : List (K × V)) → 1 < length page → (length (take ((length page + 1) / 2) page) < length page) × (length (drop ((length page + 1) / 2) page) < length page)
  shorter page long =
      let half : ((length page + 1) / 2 < length page) × (0 < (length page + 1) / 2) = (omega arith, omega arith) in
      let within : (length page + 1) / 2 ≤ length page = omega (arith, half.0) in
      let front = length-take-le ((length page + 1) / 2) page within in
      let back = length-drop ((length page + 1) / 2) page in
      (omega (arith, front, half.0), omega (arith, back, half.1))

  -- more rounds than a page has pairs change nothing
  pub halves_rounds : (most a b : ℕ) (page : List (K × V)) → 0 < most → length page ≤ a → length page ≤ b → halves most a page ≡ halves most b page
  halves_rounds most zero b page some few over = sym (halves_few most b page (omega arith))
  halves_rounds most (suc a) zero page some few over = halves_few most (suc a) page (omega arith)
  halves_rounds most (suc a) (suc b) page some few over = cases (λ part less same. halves_rounds most a b part some less same) (nat_le (length page) most) refl
    where
      cases : ((part : List (K × V)) → length part ≤ a → length part ≤ b → halves most a part ≡ halves most b part) → (t : Bool) → nat_le (length page) most ≡ t
          → (if t then kept page else halves most a (take ((length page + 1) / 2) page) ++ halves most a (drop ((length page + 1) / 2) page))
          ≡ (if t then kept page else halves most b (take ((length page + 1) / 2) page) ++ halves most b (drop ((length page + 1) / 2) page))
      cases rest true test = refl
      cases rest false test =
          let long : most < length page = leb-false (length page) most test in
          let less = shorter page (omega arith) in
          let front = rest (take ((length page + 1) / 2) page) (omega (arith, less.0)) (omega (arith, less.0)) in
          let back = rest (drop ((length page + 1) / 2) page) (omega (arith, less.1)) (omega (arith, less.1)) in
          ap (λ pages. pages ++ halves most a (drop ((length page + 1) / 2) page)) front ∙ ap (λ pages. halves most b (take ((length page + 1) / 2) page) ++ pages) back

  pub cut_often_few : (most : ℕ) (page : List (K × V)) → length page ≤ most → cut_often most page ≡ kept page
  cut_often_few most page few = halves_few most (length page) page few

  -- a page of more pairs is cut in its halves
  pub cut_often_over : (most : ℕ) (page : List (K × V)) → 0 < most → most < length page → cut_often most page ≡ cut_often most (take ((length page + 1) / 2) page) ++ cut_often most (drop ((length page + 1) / 2) page)
  cut_often_over most page some long =
      let more : length page ≡ suc (length page - 1) = omega arith in
      let less = shorter page (omega arith) in
      let front = halves_rounds most (length page - 1) (length (take ((length page + 1) / 2) page)) (take ((length page + 1) / 2) page) some (omega (arith, less.0)) (omega arith) in
      let back = halves_rounds most (length page - 1) (length (drop ((length page + 1) / 2) page)) (drop ((length page + 1) / 2) page) some (omega (arith, less.1)) (omega arith) in
      ap (λ rounds. halves most rounds page) more
      ∙ ap (λ t. if t then kept page else halves most (length page - 1) (take ((length page + 1) / 2) page) ++ halves most (length page - 1) (drop ((length page + 1) / 2) page)) (lt-leb (length page) most long)
      ∙ ap (λ pages. pages ++ halves most (length page - 1) (drop ((length page + 1) / 2) page)) front
      ∙ ap (λ pages. cut_often most (take ((length page + 1) / 2) page) ++ pages) back

  -- the same of an image
  pub cut_often_map : {X : Type 0} (f : X → K × V) (most h : ℕ) (items : List X) → 0 < most → most < length items → h ≡ (length items + 1) / 2 → cut_often most (map f (take h items)) ++ cut_often most (map f (drop h items)) ≡ cut_often most (map f items)
  cut_often_map f most h items some over half =
      let long : most < length (map f items) = rw (length-map items f) over in
      let same : h ≡ (length (map f items) + 1) / 2 = half ∙ ap (λ n. (n + 1) / 2) (sym (length-map items f)) in
      sym (cut_often_over most (map f items) some long ∙ rw (← same, take-map f h items, drop-map f h items) refl)

  pub pairs_of_halves : (most rounds : ℕ) (page : List (K × V)) → pairs_of (halves most rounds page) ≡ page
  pairs_of_halves most zero page = pairs_of_kept page
  pairs_of_halves most (suc rounds) page = cases (pairs_of_halves most rounds (take ((length page + 1) / 2) page)) (pairs_of_halves most rounds (drop ((length page + 1) / 2) page)) (nat_le (length page) most)
    where
      cases : pairs_of (halves most rounds (take ((length page + 1) / 2) page)) ≡ take ((length page + 1) / 2) page → pairs_of (halves most rounds (drop ((length page + 1) / 2) page)) ≡ drop ((length page + 1) / 2) page
          → (t : Bool) → pairs_of (if t then kept page else halves most rounds (take ((length page + 1) / 2) page) ++ halves most rounds (drop ((length page + 1) / 2) page)) ≡ page
      cases front back true = pairs_of_kept page
      cases front back false =
          pairs_of-append (halves most rounds (take ((length page + 1) / 2) page)) (halves most rounds (drop ((length page + 1) / 2) page))
          ∙ ap (λ xs. xs ++ pairs_of (halves most rounds (drop ((length page + 1) / 2) page))) front
          ∙ ap (λ xs. take ((length page + 1) / 2) page ++ xs) back
          ∙ take-append-drop ((length page + 1) / 2) page

  pub sized_halves : (most rounds : ℕ) (page : List (K × V)) → 0 < most → length page ≤ rounds → AreSized most (halves most rounds page)
  sized_halves most zero page some few = sized_kept most page (omega arith)
  sized_halves most (suc rounds) page some few = cases (λ part less. sized_halves most rounds part some less) (nat_le (length page) most) refl
    where
      cases : ((part : List (K × V)) → length part ≤ rounds → AreSized most (halves most rounds part)) → (t : Bool) → nat_le (length page) most ≡ t → AreSized most (if t then kept page else halves most rounds (take ((length page + 1) / 2) page) ++ halves most rounds (drop ((length page + 1) / 2) page))
      cases rest true test = sized_kept most page (leb-true (length page) most test)
      cases rest false test =
          let long : most < length page = leb-false (length page) most test in
          let less = shorter page (omega arith) in
          all_append _ (halves most rounds (take ((length page + 1) / 2) page)) (halves most rounds (drop ((length page + 1) / 2) page))
          (rest (take ((length page + 1) / 2) page) (omega (arith, less.0)))
          (rest (drop ((length page + 1) / 2) page) (omega (arith, less.1)))
