-- Syncs before a change, where they are made.
use Rattle.std.specs.Prelude.{◌≡◌, ◌⊎◌, Bool, true, if◌then◌else◌, List, Option, Result, Ok, Err}
use Rattle.ix_dir.specs.declared.area.Area.{Area}
use Rattle.ix_dir.specs.declared.area.Area.TheVariants.{Units, Records}
use Rattle.ix_dir.specs.declared.moves.Move.{Move}
use Rattle.ix_dir.specs.declared.moves.Move.TheVariants.{Synced}
use Rattle.ix_dir.specs.Calls.{with_move}
use Rattle.ix_shelf.specs.Shelf.{OnShelf}
use Rattle.ix_cabinet.specs.declared.change.Settled.{Settled}
use Rattle.ix_cabinet.specs.Changes.{is_unsynced}

-- the moves with a sync of the area behind them, where it is made
abbrev pub with_sync : Bool → Area → Option (List Move) → Option (List Move)
with_sync made area moves = if made then with_move moves (Synced area) else moves

-- a sync of the records, and then one of the units
abbrev pub with_syncs : Bool → Bool → Option (List Move) → Option (List Move)
with_syncs records units moves = with_sync units Units (with_sync records Records moves)

-- what a failed publish leaves: nothing changed, or the records were synced, or the units too
abbrev pub IsStoppedIn : Bool → OnShelf → OnShelf → Option (List Move) → Option (List Move) → Type 0
IsStoppedIn pending old new before now =
    ((now ≡ before) × (new ≡ old)) ⊎ ((now ≡ with_sync old.unsynced Records before) ⊎ (now ≡ with_syncs old.unsynced pending before))

-- whether a change of the units failed, or its sync did
abbrev pub did_fail : {E : Type 0} → Result Settled E → Bool
did_fail (Ok settled) = is_unsynced settled
did_fail (Err e) = true
