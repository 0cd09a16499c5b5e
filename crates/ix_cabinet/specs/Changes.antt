-- A change of the units area, and the sync behind it.
use Rattle.std.specs.Prelude.{◌≡◌, ℕ, List, Bool, true, false, Option, Result, Ok, Err}
use Rattle.ix_dir.specs.declared.area.Area.TheVariants.{Units}
use Rattle.ix_dir.specs.declared.moves.Move.{Move}
use Rattle.ix_dir.specs.declared.moves.Move.TheVariants as move
use Rattle.ix_dir.specs.Calls.{with_move, Renames}
use Rattle.ix_cabinet.specs.declared.fault.StageError.{StageError}
use Rattle.ix_cabinet.specs.declared.fault.StageError.TheVariants as stage
use Rattle.ix_cabinet.specs.declared.change.Settled.{Settled}
use Rattle.ix_cabinet.specs.declared.change.Settled.TheVariants.{Synced, Unsynced}

-- the moves with a sync of the units behind them, where it succeeded
abbrev pub settled_by : Settled → Option (List Move) → Option (List Move)
settled_by Synced moves = with_move moves (move.Synced Units)
settled_by Unsynced moves = moves

-- where the moves are told: the bytes came to stand at the unit's name, with a sync behind that where it succeeded
pub record Publishes (settled : Settled) (name bytes : List ℕ) (before now : Option (List Move)) : Type 0 where
  pub between : Option (List Move)
  pub renamed : Renames before between Units name bytes
  pub synced : now ≡ settled_by settled between

-- the sync behind a change failed
abbrev pub is_unsynced : Settled → Bool
is_unsynced Synced = false
is_unsynced Unsynced = true

-- a unit file that wasn't made ready since the directory failed
abbrev pub stage_failed : {X : Type 0} → Result X StageError → Bool
stage_failed (Ok x) = false
stage_failed (Err stage.Fault) = true
stage_failed (Err stage.Memory) = false
