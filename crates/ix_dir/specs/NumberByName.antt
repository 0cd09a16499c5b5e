-- For the names of both areas the number of the move that put the file. A move's number is that of the moves before it.
use Rattle.std.specs.Prelude.{◌≡◌, ℕ, ◌&&◌, min, if◌then◌else◌, List, Option}
use Rattle.std.specs.HashMap.{get, spare}
use Rattle.std.specs.FinMap.{find}
use Rattle.ix_dir.specs.declared.area.Area.{Area}
use Rattle.ix_dir.specs.declared.area.Area.TheVariants.{Units, Records}
use Rattle.ix_dir.specs.declared.dir.Listed.{Listed}
use Rattle.ix_dir.specs.declared.file_index.FileIndex.{FileIndex}
use Rattle.ix_dir.specs.Files.{IsRising, rows_of}
use Rattle.ix_types.specs.Row.{text_cmp}
use Rattle.ix_dir.specs.Moves.{same_area, same_name}

-- the number of a name, None where it isn't there
abbrev pub number_at : FileIndex → Area → List ℕ → Option ℕ
number_at index Units name = get same_name index.units name
number_at index Records name = get same_name index.records name

-- how many names may come in each area without memory
abbrev pub room_of : FileIndex → ℕ
room_of index = min (spare index.units) (spare index.records)

-- the name has this number now, and all others what they had
abbrev pub Sets : FileIndex → FileIndex → Area → List ℕ → Option ℕ → Type 0
Sets old new area name number =
    (a : Area) (q : List ℕ) → number_at new a q ≡ (if same_area a area && same_name name q then number else number_at old a q)

-- all names have the numbers that they had
abbrev pub SameNumbers : FileIndex → FileIndex → Type 0
SameNumbers old new = (a : Area) (q : List ℕ) → number_at new a q ≡ number_at old a q

-- the names of the area in rising order, each with its number
pub record Lists (index : FileIndex) (area : Area) (listed : List Listed) : Type 0 where
  pub rising : IsRising listed
  pub each : (q : List ℕ) → find text_cmp q (rows_of listed) ≡ number_at index area q
