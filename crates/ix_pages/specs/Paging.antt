-- A map as the list of its pages, each a list of pairs: where a new key goes, and how a page is split.
use Rattle.std.specs.Prelude.{ℕ, ◌+◌, ◌/◌, ◌<◌, ◌≤◌, nat_le, List, [], ◌∷◌, ◌++◌, length, take, drop, if◌then◌else◌}
use Rattle.std.specs.List.{flat_map, AllByRecursion}
use Rattle.std.specs.declared.cmp.Ordering.{Ordering}
use Rattle.ix_pages.specs.Pairs.{is_before, IsRising, with_pair, without_key}

module _ {K V : Type 0} where
  -- the pairs of some pages, one page after the other
  abbrev pub pairs_of : List (List (K × V)) → List (K × V)
  pairs_of pages = flat_map (λ page. page) pages

  -- a page of more than the most pairs as two, the first with half of them, rounded up
  abbrev pub cut : ℕ → List (K × V) → List (List (K × V))
  cut most page =
      if nat_le (length page) most then page ∷ []
      else take ((length page + 1) / 2) page ∷ drop ((length page + 1) / 2) page ∷ []

  -- no page where nothing is left of one
  abbrev pub kept : List (K × V) → List (List (K × V))
  kept [] = []
  kept (pair ∷ pairs) = (pair ∷ pairs) ∷ []

  -- each page has from 1 pair to the most
  abbrev pub AreSized : ℕ → List (List (K × V)) → Type 0
  AreSized most pages = AllByRecursion (λ page. (0 < length page) × (length page ≤ most)) pages

module _ {K V : Type 0} (cmp : K → K → Ordering) where
  -- the pages after a pair is put: its key goes into the last page whose least key isn't greater, or into the first page
  abbrev pub pages_with : ℕ → List (List (K × V)) → K × V → List (List (K × V))
  pages_with most [] new = (new ∷ []) ∷ []
  pages_with most (page ∷ pages) new =
      if is_before cmp new.0 (pairs_of pages) then cut most (with_pair cmp page new) ++ pages
      else page ∷ pages_with most pages new

  -- the pages after a key is taken away
  abbrev pub pages_without : List (List (K × V)) → K → List (List (K × V))
  pages_without [] key = []
  pages_without (page ∷ pages) key =
      if is_before cmp key (pairs_of pages) then kept (without_key cmp page key) ++ pages
      else page ∷ pages_without pages key

  -- the pages of a map: each has from 1 pair to the most, and the keys rise strictly from page to page
  pub record ArePages (most : ℕ) (pages : List (List (K × V))) : Type 0 where
    pub sized : AreSized most pages
    pub rising : IsRising cmp (pairs_of pages)
