-- What a change leaves in both areas.
use Rattle.std.specs.Prelude.{◌≡◌, ℕ, List, ◌++◌, ◌&&◌, false, Option, None, Some, IfSome}
use Rattle.std.specs.FinMap.{get}
use Rattle.ix_dir.specs.declared.area.Area.{Area}
use Rattle.ix_dir.specs.Files.{bytes_at}
use Rattle.ix_dir.specs.Images.{Value}
use Rattle.ix_dir.specs.Moves.{Move, same_area, same_name, area_after}

-- the name has this value in the area, and every other name of both areas has the file that it had, with its stamp
pub record LeavesAt (area : Area) (name : List ℕ) (value : Value) (before now : List Move) : Type 0 where
  pub here : bytes_at (area_after now area) name ≡ value
  pub others : (a : Area) (n : List ℕ) → (same_area a area && same_name name n) ≡ false → get (area_after now a) n ≡ get (area_after before a) n

-- moves were added, if any, behind those before
pub record Adds (before now : List Move) : Type 0 where
  pub more : List Move
  pub added : now ≡ before ++ more

-- moves are told now exactly where they were before, and none of those before is gone
abbrev pub AddsTo : Option (List Move) → Option (List Move) → Type 0
AddsTo None None = Unit {0}
AddsTo None (Some now) = ⊥
AddsTo (Some before) None = ⊥
AddsTo (Some before) (Some now) = Adds before now

-- where the directory tells its moves, before and now
abbrev pub IfTold : Option (List Move) → Option (List Move) → (List Move → List Move → Type 0) → Type 0
IfTold before now P = IfSome before (λ b. IfSome now (P b))
