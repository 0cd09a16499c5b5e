-- The files of an area: a finite map from names to files.
use Rattle.std.specs.Prelude.{ℕ, List, map, Option, IsTrue}
use Rattle.std.specs.Option.{option_map}
use Rattle.std.specs.FinMap.{FinMap, entries, get, is_sorted, from_sorted}
use Rattle.ix_types.specs.Row.{text_cmp}
use Rattle.ix_dir.specs.declared.dir.Listed.{Listed}

-- what stands under a name
pub record File : Type 0 where
  pub bytes : List ℕ
  pub stamp : ℕ

abbrev pub file : List ℕ → ℕ → File
file bytes stamp = record { bytes = bytes; stamp = stamp }

-- the files of an area by name
abbrev pub Files : Type 0
Files = FinMap text_cmp File

-- bytes by name, without stamps
abbrev pub Contents : Type 0
Contents = FinMap text_cmp (List ℕ)

-- the bytes under a name, None where there is no file
abbrev pub bytes_at : Files → List ℕ → Option (List ℕ)
bytes_at files name = option_map (λ f. f.bytes) (get files name)

-- the stamp of a name's file, None where there is no file
abbrev pub stamp_at : Files → List ℕ → Option ℕ
stamp_at files name = option_map (λ f. f.stamp) (get files name)

-- the files without their stamps
abbrev pub contents_of : Files → Contents
contents_of files = from_sorted (map (λ e. (e.0, e.1.bytes)) (entries files))

abbrev pub listed_entry : List ℕ × File → Listed
listed_entry entry = record { name = entry.0; stamp = entry.1.stamp }

-- the names in rising order, each with its stamp
abbrev pub listed_of : Files → List Listed
listed_of files = map listed_entry (entries files)

-- a name and its stamp, listed
abbrev pub listed_at : List ℕ × ℕ → Listed
listed_at row = record { name = row.0; stamp = row.1 }

-- listed files as pairs of a name and a stamp
abbrev pub rows_of : List Listed → List (List ℕ × ℕ)
rows_of listed = map (λ l. (l.name, l.stamp)) listed

-- the names strictly rise
abbrev pub IsRising : List Listed → Type 0
IsRising listed = IsTrue (is_sorted text_cmp (rows_of listed))
