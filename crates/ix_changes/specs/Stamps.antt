-- Stamps that are known of the units at a mark.
use Rattle.std.specs.Prelude.{◌≡◌, ℕ, ◌≤◌, List, length, take}
use Rattle.ix_dir.specs.declared.area.Area.TheVariants.{Units}
use Rattle.ix_dir.specs.declared.moves.Move.{Move}
use Rattle.ix_dir.specs.Crash.{standing}
use Rattle.ix_dir.specs.Moves.{area_after}
use Rattle.ix_cabinet.specs.Scan.{StampMap, stamps_in}
use Rattle.ix_model.specs.Units as model
use Rattle.ix_stops.specs.UnitFiles.{Spell}

-- at an earlier moment the unit files were those of these units, and had these stamps
pub record AreStampsOf (name_of : List ℕ → List ℕ) (units : model.Units) (stamps : StampMap) (moves : List Move) : Type 0 where
  pub moment : ℕ
  pub within : moment ≤ length moves
  pub stamped : stamps ≡ stamps_in (area_after (take moment moves) Units)
  pub spelled : Spell name_of (standing (take moment moves) Units) units
