-- The moments since an area's last sync.
use Rattle.std.specs.Prelude.{◌≡◌, ℕ, ◌≤◌, ◌&&◌, false, Bool, List, length, take, drop}
use Rattle.std.specs.List.{list_any}
use Rattle.ix_dir.specs.declared.area.Area.{Area}
use Rattle.ix_dir.specs.Files.{bytes_at}
use Rattle.ix_dir.specs.Images.{Value}
use Rattle.ix_dir.specs.Moves.{Move, Renamed, Removed, Synced, Placed, area_after, same_area, same_name}

abbrev pub syncs : Area → Move → Bool
syncs area (Renamed a name bytes stamp) = false
syncs area (Removed a name) = false
syncs area (Synced a) = same_area area a
syncs area (Placed a name bytes stamp) = false

abbrev pub is_placed : Area → List ℕ → Move → Bool
is_placed area name (Renamed a n bytes stamp) = false
is_placed area name (Removed a n) = false
is_placed area name (Synced a) = false
is_placed area name (Placed a n bytes stamp) = same_area area a && same_name n name

-- the value stood at the name at a moment, a number of moves, after which the area wasn't synced
pub record StoodSince (moves : List Move) (area : Area) (name : List ℕ) (value : Value) : Type 0 where
  pub moment : ℕ
  pub within : moment ≤ length moves
  pub stood : bytes_at (area_after (take moment moves) area) name ≡ value
  pub not_synced : list_any (syncs area) (drop moment moves) ≡ false
