-- What the proof of a step takes from the crates below.
use Rattle.std.specs.Prelude.{◌≡◌, ◌≢◌, ℕ, Bool, true, false, List, ◌++◌, slice_get, Option, Some, None, IfSome, option_map}
use Rattle.std.specs.List.{AllByRecursion}
use Rattle.ix_dir.specs.declared.moves.Move.{Move}
use Rattle.ix_model.specs.declared.publication.Publication.{Publication}
use Rattle.ix_model.specs.Units.{Units}
use Rattle.ix_machine.specs.declared.event.Outcome.{Outcome}
use Rattle.ix_machine.specs.declared.event.Purpose.TheVariants as purpose
use Rattle.ix_machine.specs.Given.{Given}
use Rattle.ix_machine.specs.Given as given
use Rattle.ix_machine.specs.Needs.{seen_at}
use Rattle.ix_machine.specs.Run.{MayCall}
use Rattle.ix_machine.specs.State.{State}
use Rattle.ix_machine.specs.Step.{Stepped, step}
use Rattle.ix_stops.specs.OnDisk.{IsOnDisk}
use Rattle.ix_stops.specs.Prefixes.{LeavesPrefixes}
use Rattle.ix_stops.specs.Shapes.{syncs}
use Rattle.ix_library.specs.Growing.{Grows}
use Rattle.ix_import.specs.Importing.{Importing as Importer}
use Rattle.ix_lanes.specs.declared.doing.Doing.{Doing}
use Rattle.ix_lanes.specs.Calls.{next_call, next_turn}
use Rattle.ix_lanes.specs.Progress.{Progress, after_event, is_asking, settled}
use Rattle.ix_lanes.specs.Tasks.{Task}
use Rattle.ix_replays.specs.Laws.{LanesHold, RunFits}
use Rattle.ix_replays.specs.Run.{Run, call_of, extended, progress_of, with_event}
use Rattle.ix_allowed.specs.Agree.{AreTasksOf, IsTaskOf, LaneAgrees, LanesAgree}
use Rattle.ix_turn_order.specs.Order.{GoesOn}
use Rattle.ix_polls.specs.Following.{IsUnderWay, leaves_import}
use Rattle.ix_seats.specs.Seated.{Seated}
use Rattle.ix_seats.specs.Seats.{IsSeat, lacks}

-- lanes agree with the state, and each call may be made; what a lane has depends on the mark that it holds; a call is a step, and an event takes its own lane on; what
-- steps leave on disk
pub record StepLaws : Type 0 where
  pub kept : (name_of : List ℕ → List ℕ) (poller : ℕ) (lanes : List (List Task)) (run longer : Run) (lane : ℕ) (flag : Outcome) → AreTasksOf name_of poller lanes
      → LanesAgree poller lanes run → extended name_of lanes run lane flag ≡ Some longer → LanesAgree poller lanes longer
  pub each : (name_of : List ℕ → List ℕ) (poller : ℕ) (lanes : List (List Task)) (run : Run) (lane : ℕ) (tasks : List Task) → AreTasksOf name_of poller lanes
      → LanesAgree poller lanes run → slice_get lanes lane ≡ Some tasks → LaneAgrees run.state lane (progress_of run lane tasks)
  pub tasks : (name_of : List ℕ → List ℕ) (poller : ℕ) (lanes : List (List Task)) (run : Run) (lane : ℕ) (tasks : List Task) → AreTasksOf name_of poller lanes
      → slice_get lanes lane ≡ Some tasks → AllByRecursion (IsTaskOf name_of poller lane) (progress_of run lane tasks).tasks
  pub may : (name_of : List ℕ → List ℕ) (poller : ℕ) (s : State) (lane : ℕ) (p : Progress) (call : Given) → AllByRecursion (IsTaskOf name_of poller lane) p.tasks
      → LaneAgrees s lane p → next_call (seen_at s) s.current p ≡ Some call → MayCall name_of s lane call
  pub seat : (seen other : ℕ → Units) (seat : Seated) → IfSome seat.lane.progress.held (λ mark. seen mark ≡ other mark) → IsSeat seen seat → IsSeat other seat
  pub settles : (seen other : ℕ → Units) (p : Progress) → IfSome p.held (λ mark. seen mark ≡ other mark) → settled seen p ≡ settled other p
  pub loads : (seen : ℕ → Units) (current : ℕ) (p : Progress) → is_asking p ≡ true → next_call seen current p ≡ option_map (λ name. given.Load name purpose.Ask) (lacks seen p)
  pub made : (name_of : List ℕ → List ℕ) (lanes : List (List Task)) (run : Run) (lane : ℕ) (tasks : List Task) (call : Given) (flag : Outcome) (stepped : Stepped)
      → slice_get lanes lane ≡ Some tasks → next_call (seen_at run.state) run.state.current (progress_of run lane tasks) ≡ Some call
      → step name_of run.state lane call flag ≡ Some stepped → GoesOn name_of lanes run lane true (with_event name_of run lane call stepped)
  pub over : (name_of : List ℕ → List ℕ) (lanes : List (List Task)) (run : Run) (lane : ℕ) (tasks : List Task)
      → slice_get lanes lane ≡ Some tasks → next_turn (progress_of run lane tasks) ≡ None → GoesOn name_of lanes run lane false run
  pub own : (name_of : List ℕ → List ℕ) (lanes : List (List Task)) (run : Run) (lane : ℕ) (tasks : List Task) (call : Given) (flag : Outcome) (stepped : Stepped) → RunFits run
      → slice_get lanes lane ≡ Some tasks → next_call (seen_at run.state) run.state.current (progress_of run lane tasks) ≡ Some call
      → step name_of run.state lane call flag ≡ Some stepped
      → progress_of (with_event name_of run lane call stepped) lane tasks ≡ after_event (seen_at stepped.state) (progress_of run lane tasks) (record { lane = lane; call = call_of name_of run.state lane call; outcome = stepped.outcome })
  pub held : (name_of : List ℕ → List ℕ) (lanes : List (List Task)) (run longer : Run) (lane other : ℕ) (flag : Outcome) (tasks : List Task) → RunFits run → LanesHold lanes run
      → extended name_of lanes run lane flag ≡ Some longer → slice_get lanes other ≡ Some tasks
      → IfSome (progress_of run other tasks).held (λ mark. seen_at run.state mark ≡ seen_at longer.state mark)
  pub others : (name_of : List ℕ → List ℕ) (lanes : List (List Task)) (run longer : Run) (lane other : ℕ) (flag : Outcome) (tasks : List Task) → RunFits run
      → extended name_of lanes run lane flag ≡ Some longer → lane ≢ other → progress_of longer other tasks ≡ progress_of run other tasks
  pub under_way : (name_of : List ℕ → List ℕ) (s : State) (lane : ℕ) (call : Given) (flag : Outcome) (stepped : Stepped) (importer : Importer) (other : ℕ) (doing : Doing) → leaves_import call ≡ true
      → step name_of s lane call flag ≡ Some stepped → IsUnderWay s other doing importer → IsUnderWay stepped.state other doing importer
  -- what steps leave they leave together, and no step leaves what stands
  pub grows : (name_of : List ℕ → List ℕ) (s : State) (lane : ℕ) (given : Given) (flag : Outcome) (stepped : Stepped) → step name_of s lane given flag ≡ Some stepped → Grows s stepped.state
  pub still : (name_of : List ℕ → List ℕ) (pending : Option ℕ) (publications : List Publication) (moves : List Move) (records units : Bool) → IsOnDisk name_of pending publications moves
      → LeavesPrefixes name_of publications publications moves (moves ++ syncs records units)
