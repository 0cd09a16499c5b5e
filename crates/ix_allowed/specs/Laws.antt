-- What holds of every run of an accepted script, in the words of its users.
use Rattle.std.specs.Prelude.{◌≡◌, ℕ, false, List, [], ◌∷◌, ◌++◌, Some, IfSome}
use Rattle.ix_machine.specs.declared.event.Event.{Event}
use Rattle.ix_machine.specs.declared.event.Outcome.{Outcome}
use Rattle.ix_machine.specs.Needs.{has_name, units_need, visible, seen_at}
use Rattle.ix_machine.specs.State.{State, lease_of, held_by}
use Rattle.ix_lanes.specs.Tasks.{Task}
use Rattle.ix_replays.specs.Run.{Run, extended}

-- the run comes to another, event after event, in this order of lanes and with these flags
abbrev pub Comes : (List ℕ → List ℕ) → List (List Task) → Run → List ℕ → List Outcome → Run → Type 0
Comes name_of lanes run [] [] end = run ≡ end
Comes name_of lanes run [] (flag ∷ flags) end = ⊥
Comes name_of lanes run (lane ∷ order) [] end = ⊥
Comes name_of lanes run (lane ∷ order) (flag ∷ flags) end = (longer : Run) × (extended name_of lanes run lane flag ≡ Some longer) × Comes name_of lanes longer order flags end

-- where a run was before an event and behind it: the events before it are these, and it is the next one
pub record Moment (name_of : List ℕ → List ℕ) (lanes : List (List Task)) (start : Run) (before : List Event) (event : Event) : Type 0 where
  pub order : List ℕ
  pub flags : List Outcome
  pub earlier : Run
  pub comes : Comes name_of lanes start order flags earlier
  pub events : earlier.events ≡ start.events ++ before
  pub lane : ℕ
  pub flag : Outcome
  pub longer : Run
  pub goes_on : extended name_of lanes earlier lane flag ≡ Some longer
  pub shows : longer.events ≡ earlier.events ++ event ∷ []

-- no visible unit needs the record, none that is seen by the open import, at the current version or at a version that a lane holds, and no lane leases it
pub record IsNeededByNone (s : State) (name : List ℕ) : Type 0 where
  pub by_visible : units_need name (visible s) ≡ false
  pub by_import : IfSome s.import (λ open_import. units_need name (seen_at s open_import.mark) ≡ false)
  pub by_current : units_need name (seen_at s s.current) ≡ false
  pub by_holds : (lane : ℕ) → IfSome (held_by s lane) (λ mark. units_need name (seen_at s mark) ≡ false)
  pub by_leases : (lane : ℕ) → IfSome (lease_of s lane) (λ lease. has_name name lease.names ≡ false)
