-- Need lists: for each name of a record how many record dependencies need it.
use Rattle.std.specs.Prelude.{◌≡◌, ℕ, ◌+◌, ◌-◌, ◌<◌, List, Option, Some, None}
use Rattle.std.specs.List.{AllByRecursion, count_by}
use Rattle.std.specs.Map.{keys_of}
use Rattle.std.specs.Str.{bytes_eq}
use Rattle.ix_types.specs.Row.{text_cmp}
use Rattle.ix_pages.specs.Pairs.{IsRising, look_up}
use Rattle.ix_pages.specs.Paging.{pairs_of, ArePages}

-- pairs of a name and a count
abbrev pub Counts : Type 0
Counts = List (List ℕ × ℕ)

-- the names of a need list
abbrev pub names_of : Counts → List (List ℕ)
names_of counts = keys_of counts

abbrev pub or_none : Option ℕ → ℕ
or_none None = 0
or_none (Some n) = n

-- how many record dependencies need a name: none where the list doesn't have it
abbrev pub count_at : Counts → List ℕ → ℕ
count_at counts name = or_none (look_up text_cmp counts name)

-- how often a name stands among some
abbrev pub times : List ℕ → List (List ℕ) → ℕ
times name names = count_by (λ other. bytes_eq other name) names

-- the names rise, and each is needed by something
pub record AreCounts (counts : Counts) : Type 0 where
  pub rises : IsRising text_cmp counts
  pub needed : AllByRecursion (λ pair. 0 < pair.1) counts

-- the same of the pages in which they stand
pub record AreCountPages (pages : List Counts) : Type 0 where
  pub paged : ArePages text_cmp 64 pages
  pub needed : AllByRecursion (λ pair. 0 < pair.1) (pairs_of pages)

-- each of the names is needed once more for each time that it stands among them
pub record Gains (names : List (List ℕ)) (before after : Counts) : Type 0 where
  pub sound : AreCounts after
  pub each : (name : List ℕ) → count_at after name ≡ count_at before name + times name names

-- each of the names is needed once less for each time that it stands among them
pub record Loses (names : List (List ℕ)) (before after : Counts) : Type 0 where
  pub sound : AreCounts after
  pub each : (name : List ℕ) → count_at after name ≡ count_at before name - times name names
