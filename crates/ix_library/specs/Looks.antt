-- What a scan and a load want of a library, and what an install leaves of the known stamps.
use Rattle.std.specs.Prelude.{ℕ, List, Option, Some, None, IfSome}
use Rattle.ix_dir.specs.State.{DirState}
use Rattle.ix_shelf.specs.Shelf.{OnShelf}
use Rattle.ix_cabinet.specs.Scan.{StampMap}
use Rattle.ix_machine.specs.declared.event.Purpose.{Purpose}
use Rattle.ix_machine.specs.Run.{MayLoad}
use Rattle.ix_machine.specs.State.{State}
use Rattle.ix_ledger.specs.Kept.{Kept}
use Rattle.ix_library.specs.declared.known.KnownStamps.{KnownStamps}
use Rattle.ix_library.specs.StandsFor.{StandsFor}

-- where the directory tells its moves, the library stands for some state
abbrev pub StandsThere : (List ℕ → List ℕ) → Kept → OnShelf → KnownStamps → DirState → Type 0
StandsThere name_of kept shelf known dir = IfSome dir.moves (λ moves. (s : State) × StandsFor name_of s kept shelf known dir)

-- where it tells them, the library stands for some state in which the lane may load the record for this
abbrev pub MayLoadThere : (List ℕ → List ℕ) → Kept → OnShelf → KnownStamps → DirState → ℕ → List ℕ → Purpose → Type 0
MayLoadThere name_of kept shelf known dir lane name purpose = IfSome dir.moves (λ moves. (s : State) × StandsFor name_of s kept shelf known dir × MayLoad s lane name purpose)

-- the stamps that are known for the import are those of the current version from now on
abbrev pub stamps_installed : KnownStamps → Option StampMap → KnownStamps
stamps_installed known None = known
stamps_installed known (Some stamps) = record { current = stamps; import = None }
