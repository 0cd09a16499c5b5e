-- What a call does to what contracts see of a directory.
use Rattle.std.specs.Prelude.{◌≡◌, ℕ, List, [], ◌∷◌, ◌++◌, Bool, true, false, if◌then◌else◌, ◌&&◌, Option, None, Result, Ok, Err, is_ok, is_some, IfSome}
use Rattle.std.specs.FinMap.{get}
use Rattle.std.specs.Option.{option_map}
use Rattle.ix_dir.specs.State.{DirState, with_slot, spent, counted_where}
use Rattle.ix_dir.specs.declared.area.Area.{Area}
use Rattle.ix_dir.specs.declared.area.Area.TheVariants.{Records}
use Rattle.ix_dir.specs.declared.dir.DirError.{DirError}
use Rattle.ix_dir.specs.declared.dir.DirError.TheVariants.{Failed, Memory}
use Rattle.ix_dir.specs.Moves.{Move, Renamed, Removed, same_area, area_after}
use Rattle.ix_dir.specs.Stamps.{IsFresh}

-- one move more, where the directory tells its moves
abbrev pub with_move : Option (List Move) → Move → Option (List Move)
with_move moves move = option_map (λ ms. ms ++ move ∷ []) moves

-- the bytes came to stand at the name, with a stamp that no earlier file of the name had
pub record Renames (old new : Option (List Move)) (area : Area) (name bytes : List ℕ) : Type 0 where
  pub stamp : ℕ
  pub move : new ≡ with_move old (Renamed area name bytes stamp)
  pub fresh : IfSome old (λ moves. IsFresh moves name stamp)

-- the moves after a removal, which is one only where the name was there
abbrev pub moves_removed : Area → List ℕ → List Move → List Move
moves_removed area name moves = if is_some (get (area_after moves area) name) then moves ++ Removed area name ∷ [] else moves

-- the name went away, if it was there
abbrev pub removed : Option (List Move) → Area → List ℕ → Option (List Move)
removed moves area name = option_map (moves_removed area name) moves

-- the outside failed
abbrev pub is_failed : {X : Type 0} → Result X DirError → Bool
is_failed (Ok x) = false
is_failed (Err Failed) = true
is_failed (Err Memory) = false

-- the read found a record file
abbrev pub is_find : {X : Type 0} → Area → Result (Option X) DirError → Bool
is_find area (Ok found) = same_area area Records && is_some found
is_find area (Err e) = false

-- after a list: its counts alone changed
abbrev pub after_list : {X : Type 0} → Result X DirError → DirState → DirState
after_list result d = record d { faults = counted_where (is_failed result) d.faults; listings = counted_where (is_ok result) d.listings }

-- after a read: its counts alone changed
abbrev pub after_read : {X : Type 0} → Area → Result (Option X) DirError → DirState → DirState
after_read area result d = record d { faults = counted_where (is_failed result) d.faults; finds = counted_where (is_find area result) d.finds }

-- after a stage, with what the slot has now
abbrev pub after_stage : {X : Type 0} → ℕ → Option (List ℕ) → Result X DirError → DirState → DirState
after_stage slot bytes result d = record d { slots = with_slot d.slots slot bytes; faults = counted_where (is_failed result) d.faults }

-- after a rename, with the moves that there are now
abbrev pub after_rename : ℕ → Option (List Move) → DirState → DirState
after_rename slot moves d = record (spent d) { moves = moves; slots = with_slot d.slots slot None }
