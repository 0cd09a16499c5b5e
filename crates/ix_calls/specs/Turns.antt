-- A lane's turn: what must be so of the state, and what its call leaves of the import.
use Rattle.std.specs.Prelude.{◌≡◌, ℕ, Bool, true, false, List, Option, Some, IfSome}
use Rattle.ix_dir.specs.State.{DirState}
use Rattle.ix_shelf.specs.Shelf.{OnShelf}
use Rattle.ix_machine.specs.declared.event.Event.{Event}
use Rattle.ix_machine.specs.declared.event.Purpose.TheVariants as purpose
use Rattle.ix_machine.specs.Needs.{seen_at}
use Rattle.ix_machine.specs.Run.{MayLoad}
use Rattle.ix_machine.specs.State.{State, held_by}
use Rattle.ix_ledger.specs.Kept.{Kept}
use Rattle.ix_library.specs.declared.known.KnownStamps.{KnownStamps}
use Rattle.ix_library.specs.StandsFor.{StandsFor}
use Rattle.ix_import.specs.Importing.{Importing}
use Rattle.ix_lanes.specs.Calls.{Turn, next_turn}
use Rattle.ix_lanes.specs.Calls as turn
use Rattle.ix_lanes.specs.Progress.{Progress}
use Rattle.ix_polls.specs.Following.{IsImporting, IsUnderWay, leaves_import}
use Rattle.ix_seats.specs.declared.made.Made.{Made}
use Rattle.ix_seats.specs.Made.{after}
use Rattle.ix_seats.specs.Seats.{lacks}
use Rattle.ix_calls.specs.Calling.{IsMade}

-- The lane holds what the state says; the importer follows the state, and is as far as the lane with the lane's import; and the record that the lane's ask lacks is one that the
-- lane may load.
pub record IsAtTurn (s : State) (lane : ℕ) (p : Progress) (importing : Importing) (wanted : Option (List ℕ)) : Type 0 where
  pub held : held_by s lane ≡ p.held
  pub imports : IsImporting s importing
  pub way : IsUnderWay s lane p.doing importing
  pub lacking : wanted ≡ lacks (seen_at s) p
  pub needed : IfSome wanted (λ name. MayLoad s lane name purpose.Ask)

-- where the directory tells its moves, the library stands for some state at the lane's turn
abbrev pub IsAtTurnThere : (List ℕ → List ℕ) → Kept → OnShelf → KnownStamps → DirState → ℕ → Progress → Importing → Option (List ℕ) → Type 0
IsAtTurnThere name_of kept shelf known dir lane p importing wanted = IfSome dir.moves (λ moves. (s : State) × (StandsFor name_of s kept shelf known dir × IsAtTurn s lane p importing wanted))

-- the same of some lane whose turn is this
abbrev pub IsTurnThere : (List ℕ → List ℕ) → Kept → OnShelf → KnownStamps → DirState → ℕ → Turn → Importing → Option (List ℕ) → Type 0
IsTurnThere name_of kept shelf known dir lane t importing wanted =
    IfSome dir.moves (λ moves. (p : Progress) × ((next_turn p ≡ Some t) × ((s : State) × (StandsFor name_of s kept shelf known dir × IsAtTurn s lane p importing wanted))))

-- whether the turn is an ask's
abbrev pub is_asked : Turn → Bool
is_asked (turn.Lease names) = false
is_asked (turn.Put body) = false
is_asked (turn.Stage unit) = false
is_asked turn.Publish = false
is_asked (turn.Remove output) = false
is_asked turn.Scan = false
is_asked turn.Import = false
is_asked turn.Adopt = false
is_asked turn.Release = false
is_asked turn.Collect = false
is_asked (turn.Ask query) = true

-- the lane's call was made on the machine, and the importer follows the state after it, as far as the lane with the lane's import; a call that is no poll's leaves the importer alone
pub record IsCall (name_of : List ℕ → List ℕ) (s : State) (lane : ℕ) (p : Progress) (earlier : List Event) (before : DirState) (made : Made) (events : List Event) (kept : Kept) (shelf : OnShelf) (known : KnownStamps) (dir : DirState) (earlier_import importing : Importing) : Type 0 where
  pub is : IsMade name_of s lane p earlier before made events kept shelf known dir
  pub imports : IsImporting is.takes.next importing
  pub way : IsUnderWay is.takes.next lane (after made p).doing importing
  pub aside : leaves_import is.given ≡ true → importing ≡ earlier_import
