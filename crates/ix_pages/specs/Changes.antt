-- Changes of a map's pairs, one after the other, and what they make of its pages in one go.
use Rattle.std.specs.Prelude.{◌≡◌, ℕ, zero, suc, ◌+◌, ◌/◌, nat_le, not, List, [], ◌∷◌, ◌++◌, length, take, drop, filter, if◌then◌else◌}
use Rattle.std.specs.List.{AllByRecursion}
use Rattle.std.specs.declared.cmp.Ordering.{Ordering}
use Rattle.std.specs.declared.cmp.Ordering.TheVariants.{Less}
use Rattle.ix_pages.specs.declared.changes.Change.{Change}
use Rattle.ix_pages.specs.declared.changes.Change.TheVariants.{Put, Take}
use Rattle.ix_pages.specs.Pairs.{is_before, with_pair, without_key}
use Rattle.ix_pages.specs.Paging.{pairs_of, kept}

module _ {K V : Type 0} where
  -- the key that a change speaks of
  abbrev pub key_of_change : Change K V → K
  key_of_change (Put key value) = key
  key_of_change (Take key) = key

  -- a page in halves, the first of them rounded up, and these again, until none has more than the most pairs
  abbrev pub halves : ℕ → ℕ → List (K × V) → List (List (K × V))
  halves most zero page = kept page
  halves most (suc rounds) page =
      if nat_le (length page) most then kept page
      else halves most rounds (take ((length page + 1) / 2) page) ++ halves most rounds (drop ((length page + 1) / 2) page)

  -- the same, with rounds enough for the page; none where there is no pair
  abbrev pub cut_often : ℕ → List (K × V) → List (List (K × V))
  cut_often most page = halves most (length page) page

module _ {K V : Type 0} (cmp : K → K → Ordering) where
  -- the pairs after a change
  abbrev pub changed_by : List (K × V) → Change K V → List (K × V)
  changed_by pairs (Put key value) = with_pair cmp pairs (key, value)
  changed_by pairs (Take key) = without_key cmp pairs key

  -- the pairs after each change in turn
  abbrev pub changed : List (K × V) → List (Change K V) → List (K × V)
  changed pairs [] = pairs
  changed pairs (change ∷ changes) = changed (changed_by pairs change) changes

  -- the key of each change is less than those behind it
  abbrev pub AreRising : List (Change K V) → Type 0
  AreRising [] = Unit {0}
  AreRising (change ∷ changes) = AllByRecursion (λ later. cmp (key_of_change change) (key_of_change later) ≡ Less) changes × AreRising changes

  -- the changes whose key is before some pairs, and the others
  abbrev pub changes_before : List (K × V) → List (Change K V) → List (Change K V)
  changes_before pairs changes = filter (λ change. is_before cmp (key_of_change change) pairs) changes

  abbrev pub changes_behind : List (K × V) → List (Change K V) → List (Change K V)
  changes_behind pairs changes = filter (λ change. not (is_before cmp (key_of_change change) pairs)) changes

  -- a page into which no change falls stays; else its pairs are changed, and cut as often as is needed
  abbrev pub page_changed : ℕ → List (K × V) → List (Change K V) → List (List (K × V))
  page_changed most page [] = page ∷ []
  page_changed most page (change ∷ changes) = cut_often most (changed page (change ∷ changes))

  -- the pages after some changes: each falls into the last page whose least key isn't greater, or into the first page
  abbrev pub pages_changed : ℕ → List (List (K × V)) → List (Change K V) → List (List (K × V))
  pages_changed most [] changes = cut_often most (changed [] changes)
  pages_changed most (page ∷ pages) changes =
      page_changed most page (changes_before (pairs_of pages) changes) ++ pages_changed most pages (changes_behind (pairs_of pages) changes)
