-- Where a run has ended the seats have its answers.
use Rattle.std.proofs.Common.{◌≡◌, ◌∙◌, ◌⊎◌, inl, inr, ℕ, ◌+◌, List, [], Option, Result, Ok, Err, OnErr, OnOk, true, false, is_err, map, ap, sym, subst, arith}
use Rattle.std.specs.List.{AllByRecursion, enumerate_from}
use Rattle.ix_dir.specs.declared.moves.Move.{Move}
use Rattle.ix_dir.specs.State.{DirState}
use Rattle.ix_shelf.specs.Shelf.{OnShelf}
use Rattle.ix_machine.specs.Needs.{seen_at}
use Rattle.ix_machine.specs.Run.{Opening}
use Rattle.ix_machine.specs.declared.opened.Refused.{Refused}
use Rattle.ix_machine.specs.declared.event.Event.{Event}
use Rattle.ix_plan.specs.declared.plan.Script.{Script}
use Rattle.ix_ledger.specs.Books.{Books}
use Rattle.ix_import.specs.Importing.{Importing}
use Rattle.ix_library.specs.declared.known.KnownStamps.{KnownStamps}
use Rattle.ix_library.specs.StandsFor.{StandsFor}
use Rattle.ix_lanes.specs.declared.answered.Answered.{Answered}
use Rattle.ix_lanes.specs.Progress.{Progress, settled}
use Rattle.ix_lanes.specs.Tasks.{Task}
use Rattle.ix_replays.specs.Run.{IsReplay, Run, lanes_of, progress_of, transcript_of}
use Rattle.ix_seats.specs.Seated.{Seated}
use Rattle.ix_seats.specs.Seats.{IsSeat}
use Rattle.ix_turn_order.specs.Order.{ComesTo, IsWanting}
use Rattle.ix_replay.specs.Left.{HoldsState, LeavesBehind}
use Rattle.ix_replay.specs.Runs.{IsRun}
use Rattle.ix_replay.proofs.Leaving.{held_there}
use Rattle.ix_replay.proofs.Lists.{all_beside, map_beside}

module _ (name_of : List ℕ → List ℕ) (lanes : List (List Task)) (run : Run) (books : Books) (shelf : OnShelf) (known : KnownStamps) (dir : DirState) (importer : Importing) (seats : List Seated)
    (is : IsRun name_of lanes run books shelf known dir importer seats) where
  pub all_sit : AllByRecursion (IsSeat (seen_at run.state)) seats
  all_sit = all_beside (IsSeat (seen_at run.state)) lanes seats is.count (λ lane own seat there seated. (is.seated lane own seat there seated).sits)

  pub answers_are : map (λ (seat : Seated). (settled (seen_at run.state) seat.lane.progress).answers) seats ≡ map (λ (lane : ℕ × List Task). (progress_of run lane.0 lane.1).answers) (enumerate_from 0 lanes)
  answers_are =
      map_beside (λ (seat : Seated). (settled (seen_at run.state) seat.lane.progress).answers) (λ (lane : ℕ × List Task). (progress_of run lane.0 lane.1).answers) 0 lanes seats is.count
      (λ lane own seat there seated.
      let place : lane ≡ 0 + lane = omega arith in
      ap (λ (p : Progress). p.answers) (is.seated lane own seat there seated).progress ∙ ap (λ (k : ℕ). (progress_of run k own).answers) place)

-- the run ended, where no memory was wanting
pub done : {A E : Type 0} (r : Result A E) (P : Type 0) → is_err r ≡ false → OnOk r P → P
done (Ok a) P fine so = so
done (Err e) P fine so = absurd (cc)

-- an error, where memory was wanting
pub failed : {A E : Type 0} (r : Result A E) (P : Type 0) → is_err r ≡ true → OnErr r P → P
failed (Ok a) P bad so = absurd (cc)
failed (Err e) P bad so = so

-- what the run showed
pub shows_a_replay : (name_of : List ℕ → List ℕ) (script : Script) (opening : Opening) (run : Run) (books : Books) (shelf : OnShelf) (known : KnownStamps) (dir : DirState) (importer : Importing) (seats : List Seated)
    (refused : List Refused) (events : List Event) (answers : List (List Answered)) → IsRun name_of (lanes_of name_of script) run books shelf known dir importer seats
    → (replay : IsReplay name_of script opening (transcript_of name_of script opening run)) → replay.run ≡ run → refused ≡ opening.refused → events ≡ books.events
    → (AllByRecursion (IsSeat (seen_at run.state)) seats → answers ≡ map (λ (seat : Seated). (settled (seen_at run.state) seat.lane.progress).answers) seats)
    → (shown : IsReplay name_of script opening (record { refused = refused; events = events; answers = answers })) × (shown.run ≡ run)
shows_a_replay name_of script opening run books shelf known dir importer seats refused events answers is replays its none same settle =
    let lanes = lanes_of name_of script in
    let shown : answers ≡ map (λ (lane : ℕ × List Task). (progress_of run lane.0 lane.1).answers) (enumerate_from 0 lanes) =
    settle (all_sit name_of lanes run books shelf known dir importer seats is) ∙ answers_are name_of lanes run books shelf known dir importer seats is in
    let all : transcript_of name_of script opening run ≡ record { refused = refused; events = events; answers = answers } =
    λ i. record { refused = (sym none) i; events = sym (same ∙ is.events) i; answers = (sym shown) i } in
    let shown_by : IsReplay name_of script opening (record { refused = refused; events = events; answers = answers }) = record { run = replays.run; runs = replays.runs; shows = sym all ∙ replays.shows } in
    (shown_by, its)

-- a run that memory ended: what the library stands for is on disk
pub held_wanting : (name_of : List ℕ → List ℕ) (lanes : List (List Task)) (start : Run) (order : List ℕ) (books : Books) (shelf : OnShelf) (known : KnownStamps) (dir : DirState) (importer : Importing) (seats : List Seated)
    (end : Option (List Move)) → end ≡ dir.moves → IsWanting name_of lanes (λ (run : Run). IsRun name_of lanes run books shelf known dir importer seats ⊎ StandsFor name_of run.state books.kept shelf known dir) start order
    → IsWanting name_of lanes (λ (run : Run). HoldsState name_of run.state end) start order
held_wanting name_of lanes start order books shelf known dir importer seats end same w = record {
  run = w.run;
  rest = w.rest;
  wants = subst (λ (o : Option (List Move)). HoldsState name_of w.run.state o) (sym same)
      (elim w.wants as (λ o. HoldsState name_of w.run.state dir.moves) [
        | inl is ↦ held_there name_of w.run.state shelf dir.moves is.stands.holds
        | inr stands ↦ held_there name_of w.run.state shelf dir.moves stands.holds
      ]);
  comes = w.comes;
}

-- behind the end of a run, too
pub ended_wanting : (name_of : List ℕ → List ℕ) (lanes : List (List Task)) (start run : Run) (order : List ℕ) (books : Books) (shelf : OnShelf) (known : KnownStamps) (dir : DirState) (importer : Importing) (seats : List Seated)
    (end : Option (List Move)) → end ≡ dir.moves → IsRun name_of lanes run books shelf known dir importer seats → ComesTo name_of lanes start order run [] → IsWanting name_of lanes (λ (run : Run). HoldsState name_of run.state end) start order
ended_wanting name_of lanes start run order books shelf known dir importer seats end same is comes = record {
  run = run;
  rest = [];
  wants = subst (λ (o : Option (List Move)). HoldsState name_of run.state o) (sym same) (held_there name_of run.state shelf dir.moves is.stands.holds);
  comes = comes;
}

-- what an ended run left, of the run that its transcript shows
pub left_shown : (name_of : List ℕ → List ℕ) (start run shown : Run) (books : Books) (shelf : OnShelf) (known : KnownStamps) (dir : DirState) (lanes : List (List Task)) (importer : Importing) (seats : List Seated) (before end : Option (List Move))
    → shown ≡ run → end ≡ dir.moves → IsRun name_of lanes run books shelf known dir importer seats → LeavesBehind name_of start run before dir.moves
    → HoldsState name_of shown.state end × LeavesBehind name_of start shown before end
left_shown name_of start run shown books shelf known dir lanes importer seats before end its same is left =
    subst (λ (r : Run). HoldsState name_of r.state end × LeavesBehind name_of start r before end) (sym its)
    (subst (λ (o : Option (List Move)). HoldsState name_of run.state o × LeavesBehind name_of start run before o) (sym same) (held_there name_of run.state shelf dir.moves is.stands.holds, left))
