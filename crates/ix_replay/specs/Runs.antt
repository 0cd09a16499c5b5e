-- What a library, an importer and lanes in their seats stand for: a run of the machine.
use Rattle.std.specs.Prelude.{◌≡◌, ℕ, List, length, slice_get, Some, IfSome}
use Rattle.std.specs.List.{AllByRecursion}
use Rattle.ix_dir.specs.State.{DirState}
use Rattle.ix_shelf.specs.Shelf.{OnShelf}
use Rattle.ix_machine.specs.Needs.{seen_at}
use Rattle.ix_ledger.specs.Books.{Books}
use Rattle.ix_import.specs.Importing.{Importing}
use Rattle.ix_library.specs.declared.known.KnownStamps.{KnownStamps}
use Rattle.ix_library.specs.StandsFor.{HasSlots, StandsFor}
use Rattle.ix_lanes.specs.Progress.{settled}
use Rattle.ix_lanes.specs.Tasks.{Task}
use Rattle.ix_replays.specs.Run.{Run, progress_of}
use Rattle.ix_seats.specs.Seated.{Seated}
use Rattle.ix_seats.specs.Seats.{IsSeat}
use Rattle.ix_polls.specs.Following.{IsImporting, IsUnderWay}
use Rattle.ix_calls.specs.Sound.{AreSound}
use Rattle.ix_allowed.specs.Agree.{AreTasksOf, LanesAgree}

-- the seat of a lane is one over the units of the run; its lane, once its asks that lack nothing are answered, is as far as the run says; and its import, where one is open, is the importer's
pub record IsInRun (run : Run) (lane : ℕ) (tasks : List Task) (importing : Importing) (seat : Seated) : Type 0 where
  pub sits : IsSeat (seen_at run.state) seat
  pub progress : settled (seen_at run.state) seat.lane.progress ≡ progress_of run lane tasks
  pub way : IsUnderWay run.state lane (progress_of run lane tasks).doing importing

-- the library stands for the run's state, its events are the run's, and so it is with the importer and each lane
pub record IsRun (name_of : List ℕ → List ℕ) (lanes : List (List Task)) (run : Run) (books : Books) (shelf : OnShelf) (known : KnownStamps) (dir : DirState) (importing : Importing) (seats : List Seated) : Type 0 where
  pub poller : ℕ
  pub tasks : AreTasksOf name_of poller lanes
  pub agrees : LanesAgree poller lanes run
  pub stands : StandsFor name_of run.state books.kept shelf known dir
  pub events : books.events ≡ run.events
  pub imports : IsImporting run.state importing
  pub count : length seats ≡ length lanes
  pub seated : (lane : ℕ) (own : List Task) (seat : Seated) → slice_get lanes lane ≡ Some own → slice_get seats lane ≡ Some seat → IsInRun run lane own importing seat

-- what a step needs over each directory: slots of staged units are staged, and what is left to build is sound; and over one that tells its moves, that all stands for a run
pub record CanStep (name_of : List ℕ → List ℕ) (books : Books) (shelf : OnShelf) (known : KnownStamps) (dir : DirState) (importing : Importing) (seats : List Seated) : Type 0 where
  pub ready : HasSlots books.kept dir
  pub sound : AllByRecursion (λ (seat : Seated). AreSound name_of seat.lane.progress.tasks) seats
  pub runs : IfSome dir.moves (λ moves. (lanes : List (List Task)) × (run : Run) × IsRun name_of lanes run books shelf known dir importing seats)
