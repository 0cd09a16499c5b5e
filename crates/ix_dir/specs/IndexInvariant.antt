-- What holds of a directory in memory: the index beside the moves has the files that stand after them.
use Rattle.std.specs.Prelude.{◌≡◌, ℕ, ◌+◌, ◌≤◌, List, [], ◌∷◌, Option, None, Some, slice_get, option_and_then, length, Vec, vec_capacity}
use Rattle.std.specs.Option.{option_map}
use Rattle.std.specs.FinMap.{get}
use Rattle.std.specs.declared.alloc.Global.{Global}
use Rattle.ix_dir.specs.declared.area.Area.{Area}
use Rattle.ix_dir.specs.declared.file_index.FileIndex.{FileIndex}
use Rattle.ix_dir.specs.Files.{File, file}
use Rattle.ix_dir.specs.Moves.{Move, Renamed, Removed, Synced, Placed, area_after}
use Rattle.ix_dir.specs.NumberByName.{number_at, room_of}

-- the file that a move put, if it did
abbrev pub file_put : Move → Option File
file_put (Renamed area name bytes stamp) = Some (file bytes stamp)
file_put (Removed area name) = None
file_put (Synced area) = None
file_put (Placed area name bytes stamp) = Some (file bytes stamp)

-- the file that the move of a number put
abbrev pub file_at : List Move → ℕ → Option File
file_at moves number = option_and_then file_put (slice_get moves number)

-- a file's stamp is the number of the moves before it
abbrev pub IsNumbered : ℕ → List Move → Type 0
IsNumbered n [] = Unit {0}
IsNumbered n (Renamed area name bytes stamp ∷ moves) = (stamp ≡ n) × IsNumbered (n + 1) moves
IsNumbered n (Removed area name ∷ moves) = IsNumbered (n + 1) moves
IsNumbered n (Synced area ∷ moves) = IsNumbered (n + 1) moves
IsNumbered n (Placed area name bytes stamp ∷ moves) = (stamp ≡ n) × IsNumbered (n + 1) moves

-- each name that stands after the moves has the number of the move that put its file, and no other name has one
abbrev pub Indexes : List Move → FileIndex → Type 0
Indexes moves index =
    (area : Area) (name : List ℕ) → option_map (file_at moves) (number_at index area name) ≡ option_map Some (get (area_after moves area) name)

pub record IsKept (moves : Vec Move Global) (index : FileIndex) (spare : ℕ) : Type 0 where
  pub room : length moves.items + spare ≤ vec_capacity moves
  pub index_room : spare ≤ room_of index
  pub indexes : Indexes moves.items index
  pub numbered : IsNumbered 0 moves.items
