-- The moves of a directory, each a change that took effect, in order of time, and the files that stand after them.
use Rattle.std.specs.Prelude.{ℕ, Bool, true, false, if◌then◌else◌, List, fold, nat_eq}
use Rattle.std.specs.Cmp.Lexicographic.{pointwise}
use Rattle.std.specs.FinMap.{empty, insert, remove}
use Rattle.ix_dir.specs.declared.area.Area.{Area}
use Rattle.ix_dir.specs.declared.area.Area.TheVariants.{Units, Records}
use Rattle.ix_dir.specs.Files.{Files, file}
pub use Rattle.ix_dir.specs.declared.moves.Move.{Move}
pub use Rattle.ix_dir.specs.declared.moves.Move.TheVariants.{Renamed, Removed, Synced, Placed}

abbrev pub same_area : Area → Area → Bool
same_area Units Units = true
same_area Units Records = false
same_area Records Units = false
same_area Records Records = true

abbrev pub same_name : List ℕ → List ℕ → Bool
same_name = pointwise nat_eq

-- the files of an area after one move more
abbrev pub area_step : Area → Files → Move → Files
area_step area files (Renamed a name bytes stamp) = if same_area area a then insert files name (file bytes stamp) else files
area_step area files (Removed a name) = if same_area area a then remove files name else files
area_step area files (Synced a) = files
area_step area files (Placed a name bytes stamp) = if same_area area a then insert files name (file bytes stamp) else files

-- the files that stand in an area after the moves
abbrev pub area_after : List Move → Area → Files
area_after moves area = fold (area_step area) empty moves
