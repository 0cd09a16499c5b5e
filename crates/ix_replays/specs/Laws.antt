-- What holds of every run, in the words of its users.
use Rattle.std.specs.Prelude.{◌≡◌, ◌⊎◌, ℕ, ◌≤◌, List, ◌++◌, length, slice_get, Some, IfSome}
use Rattle.std.specs.List.{AllByRecursion}
use Rattle.ix_model.specs.declared.publication.Publication.{Publication}
use Rattle.ix_machine.specs.declared.event.Event.{Event}
use Rattle.ix_machine.specs.declared.event.Outcome.TheVariants.{At}
use Rattle.ix_machine.specs.State.{State, held_by}
use Rattle.ix_lanes.specs.Tasks.{Task}
use Rattle.ix_replays.specs.Run.{Run, progress_of}

-- the current mark is at most that of the open import, each held mark at most the current one, and all at most the number of publications
pub record MarksFit (s : State) : Type 0 where
  pub current : s.current ≤ length s.publications
  pub imported : IfSome s.import (λ open_import. (s.current ≤ open_import.mark) × (open_import.mark ≤ length s.publications))
  pub held : (lane : ℕ) → IfSome (held_by s lane) (λ mark. mark ≤ s.current)

-- publications are only added, the current mark doesn't fall, and what a lane holds it held before, or it is no earlier than what was current
pub record NoMarkFalls (before after : State) : Type 0 where
  pub more : List Publication
  pub publications : after.publications ≡ before.publications ++ more
  pub current : before.current ≤ after.current
  pub held : (lane : ℕ) → IfSome (held_by after lane) (λ later. (held_by before lane ≡ Some later) ⊎ (before.current ≤ later))

-- an event ends at no mark beyond the publications
abbrev pub EventFits : State → Event → Type 0
EventFits s event = (mark : ℕ) → event.outcome ≡ At mark → mark ≤ length s.publications

-- the marks of a run's state fit, and so do those at which its events ended
pub record RunFits (run : Run) : Type 0 where
  pub marks : MarksFit run.state
  pub events : AllByRecursion (EventFits run.state) run.events

-- each lane's progress holds what the machine's state says that the lane holds
pub record LanesHold (lanes : List (List Task)) (run : Run) : Type 0 where
  pub room : length run.state.held ≡ length lanes
  pub held : (lane : ℕ) (tasks : List Task) → slice_get lanes lane ≡ Some tasks → held_by run.state lane ≡ (progress_of run lane tasks).held
