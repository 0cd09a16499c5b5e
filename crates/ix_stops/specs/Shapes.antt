-- The moves that a step makes, in their order.
use Rattle.std.specs.Prelude.{ℕ, Bool, if◌then◌else◌, List, [], ◌∷◌, ◌++◌, Option, Some, None}
use Rattle.ix_dir.specs.declared.area.Area.TheVariants.{Units, Records}
use Rattle.ix_dir.specs.declared.moves.Move.{Move}
use Rattle.ix_dir.specs.declared.moves.Move.TheVariants as move
use Rattle.ix_cabinet.specs.declared.change.Settled.{Settled}
use Rattle.ix_cabinet.specs.declared.change.Settled.TheVariants.{Synced, Unsynced}

-- a sync of the records, and then one of the units, where they are made
abbrev pub syncs : Bool → Bool → List Move
syncs records units = (if records then move.Synced Records ∷ [] else []) ++ (if units then move.Synced Units ∷ [] else [])

-- the moves with a sync of the units behind them, where it succeeded
abbrev pub settled_moves : Settled → List Move → List Move
settled_moves Synced moves = moves ++ move.Synced Units ∷ []
settled_moves Unsynced moves = moves

-- the mark before a change that pends, where its sync failed
abbrev pub pending_after : Settled → ℕ → Option ℕ
pending_after Synced mark = None
pending_after Unsynced mark = Some mark
