-- An open question: which records it needs, and how many of them were found loaded.
use Rattle.std.specs.Prelude.{ℕ, List, take}
use Rattle.ix_answers.specs.Rising.{AreLoaded}
use Rattle.ix_lookups.specs.Loaded.{Loaded, loaded_names}

-- the records that a query needs, and the place of the first that wasn't found loaded
pub record Asked : Type 0 where
  pub needed : List (List ℕ)
  pub place : ℕ

-- the records that the question has passed
abbrev pub passed : Asked → List (List ℕ)
passed asked = take asked.place asked.needed

-- what the question has passed is loaded
abbrev pub IsOpenOver : Asked → Loaded → Type 0
IsOpenOver asked bodies = AreLoaded (loaded_names bodies) (passed asked)
