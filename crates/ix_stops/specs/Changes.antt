-- The changes of the units area among moves.
use Rattle.std.specs.Prelude.{ℕ, suc, List, Option, Some, None}
use Rattle.std.specs.List.{fold, filter_map}
use Rattle.ix_dir.specs.declared.area.Area.TheVariants.{Units, Records}
use Rattle.ix_dir.specs.declared.moves.Move.{Move}
use Rattle.ix_dir.specs.declared.moves.Move.TheVariants as move
use Rattle.ix_machine.specs.Counts.{UnitsMove, Changed, Synced}

-- what a move is for the units area
abbrev pub units_move : Move → Option UnitsMove
units_move (move.Renamed Units name bytes stamp) = Some Changed
units_move (move.Renamed Records name bytes stamp) = None
units_move (move.Removed Units name) = Some Changed
units_move (move.Removed Records name) = None
units_move (move.Synced Units) = Some Synced
units_move (move.Synced Records) = None
units_move (move.Placed area name bytes stamp) = None

-- the changes and the syncs of the units area
abbrev pub units_moves : List Move → List UnitsMove
units_moves moves = filter_map units_move moves

abbrev pub waiting_step : ℕ → Move → ℕ
waiting_step n (move.Renamed Units name bytes stamp) = suc n
waiting_step n (move.Renamed Records name bytes stamp) = n
waiting_step n (move.Removed Units name) = suc n
waiting_step n (move.Removed Records name) = n
waiting_step n (move.Synced Units) = 0
waiting_step n (move.Synced Records) = n
waiting_step n (move.Placed area name bytes stamp) = n

-- how many changes of the units area wait for a sync
abbrev pub waiting : List Move → ℕ
waiting moves = fold waiting_step 0 moves
