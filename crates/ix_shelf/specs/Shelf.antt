-- A shelf, as contracts see it.
use Rattle.std.specs.Prelude.{◌≡◌, Bool, false, List, Option, IfSome}
use Rattle.ix_dir.specs.declared.area.Area.TheVariants.{Records}
use Rattle.ix_dir.specs.Crash.{IsSettledIn}
use Rattle.ix_dir.specs.declared.moves.Move.{Move}

pub record OnShelf : Type 0 where
  -- a change of the records area may wait for a sync
  pub unsynced : Bool

-- where none does, a crash leaves in the records area what stands there
abbrev pub Knows : OnShelf → Option (List Move) → Type 0
Knows shelf moves = shelf.unsynced ≡ false → IfSome moves (IsSettledIn Records)
