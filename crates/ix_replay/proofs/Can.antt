-- What a step needs, and has after it.
use Rattle.std.proofs.Common.{◌≡◌, ℕ, Bool, List, set, drop, slice_get, Option, Some, None, sym, subst}
use Rattle.ix_dir.specs.State.{DirState}
use Rattle.ix_shelf.specs.Shelf.{OnShelf}
use Rattle.ix_machine.specs.State.{State}
use Rattle.ix_ledger.specs.Books.{Books}
use Rattle.ix_library.specs.declared.known.KnownStamps.{KnownStamps}
use Rattle.ix_library.specs.StandsFor.{HasSlots, StandsFor}
use Rattle.ix_import.specs.Importing.{Importing as Importer}
use Rattle.ix_lanes.specs.Progress.{Progress}
use Rattle.ix_lanes.specs.Tasks.{Task}
use Rattle.ix_lanes.specs.Views.{Under}
use Rattle.ix_replays.specs.Run.{Run}
use Rattle.ix_turn_order.specs.Order.{GoesOn}
use Rattle.ix_seats.specs.Seated.{Seated}
use Rattle.ix_seats.specs.Seats.{AreLeft}
use Rattle.ix_calls.specs.Sound.{AreSound}
use Rattle.ix_calls.specs.Turns.{IsAtTurn, IsAtTurnThere}
use Rattle.ix_replay.specs.Given.{StepLaws}
use Rattle.ix_replay.specs.Runs.{CanStep, IsRun}
use Rattle.ix_replay.proofs.Places.{all_at, all_set, on_told}
use Rattle.ix_replay.proofs.Stepping.{IsReady, turn_shown}

module _ (name_of : List ℕ → List ℕ) (books : Books) (shelf : OnShelf) (known : KnownStamps) (dir : DirState) (importing : Importer) (seats : List Seated) where
  abbrev pub StandsForRun : Type 0
  StandsForRun = (lanes : List (List Task)) × (run : Run) × IsRun name_of lanes run books shelf known dir importing seats

module _ (name_of : List ℕ → List ℕ) (books : Books) (shelf : OnShelf) (known : KnownStamps) (dir : DirState) (importing : Importer) (seats : List Seated) (can : CanStep name_of books shelf known dir importing seats) (lane : ℕ) where
  -- where the directory tells its moves, the lane is at its turn in a state that the library stands for
  pub turn_there : StepLaws → (old new : Seated) (wanted : Option (List ℕ)) → slice_get seats lane ≡ Some old → IsReady old new wanted → (shown : Under) → shown ≡ new.lane
      → IsAtTurnThere name_of books.kept shelf known dir lane shown.progress importing wanted
  turn_there laws old new wanted there ready shown is =
      on_told (StandsForRun name_of books shelf known dir importing seats) ((s : State) × (StandsFor name_of s books.kept shelf known dir × IsAtTurn s lane shown.progress importing wanted))
      (λ a. (a.1.state, (a.2.stands, turn_shown laws name_of a.0 a.1 books shelf known dir importing seats a.2 lane old new wanted there ready shown is))) dir.moves dir.moves (λ none. none) can.runs

  -- what is left to build is sound before the lane's call
  pub sound_before : ((tasks : List Task) (gone : ℕ) → AreSound name_of tasks → AreSound name_of (drop gone tasks)) → (old between new : Seated) → slice_get seats lane ≡ Some old
      → AreLeft old.lane.progress.tasks between.lane.progress.tasks → new.lane.progress ≡ between.lane.progress → AreSound name_of new.lane.progress.tasks
  sound_before law old between new there left still =
      subst (λ (p : Progress). AreSound name_of p.tasks) (sym still)
      (subst (λ (tasks : List Task). AreSound name_of tasks) (sym left.is)
      (law old.lane.progress.tasks left.gone (all_at (λ (seat : Seated). AreSound name_of seat.lane.progress.tasks) seats lane old there can.sound)))

  -- a step that takes each run on leaves what the next one needs
  pub can_then : (books' : Books) (shelf' : OnShelf) (known' : KnownStamps) (dir' : DirState) (importing' : Importer) (final : Seated) (made : Bool) → HasSlots books'.kept dir' → AreSound name_of final.lane.progress.tasks
      → (dir.moves ≡ None → dir'.moves ≡ None)
      → ((lanes : List (List Task)) (run : Run) → IsRun name_of lanes run books shelf known dir importing seats
      → (next : Run) × GoesOn name_of lanes run lane made next × IsRun name_of lanes next books' shelf' known' dir' importing' (set seats lane final))
      → CanStep name_of books' shelf' known' dir' importing' (set seats lane final)
  can_then books' shelf' known' dir' importing' final made slots sound told goes = record {
    ready = slots;
    sound = all_set (λ (seat : Seated). AreSound name_of seat.lane.progress.tasks) seats lane final can.sound sound;
    runs =
        on_told (StandsForRun name_of books shelf known dir importing seats) (StandsForRun name_of books' shelf' known' dir' importing' (set seats lane final))
        (λ a. let b = goes a.0 a.1 a.2 in (a.0, b.0, b.2)) dir.moves dir'.moves told can.runs;
  }

-- what holds of a value holds of one that is the same, and so of two
pub at_same : {L I : Type 0} (l l' : L) (i i' : I) → l' ≡ l → i' ≡ i → (P : L → I → Type 0) → P l i → P l' i'
at_same l l' i i' e f P p = subst (λ x. P l' x) (sym f) (subst (λ x. P x i) (sym e) p)
