-- What a ledger is: what it keeps, and what happened.
use Rattle.std.specs.Prelude.{ℕ, if◌then◌else◌, Bool, false, List, [], ◌∷◌, ◌++◌}
use Rattle.ix_machine.specs.declared.event.Call.{Call}
use Rattle.ix_machine.specs.declared.event.Event.{Event}
use Rattle.ix_machine.specs.declared.event.Outcome.{Outcome}
use Rattle.ix_machine.specs.declared.event.Outcome.TheVariants.{Synced, Unsynced}
use Rattle.ix_ledger.specs.Kept.{Kept}

pub record Books : Type 0 where
  pub kept : Kept
  -- what happened, the first event first
  pub events : List Event
  -- whether one more event can be written down without memory
  pub has_room : Bool

abbrev pub event : ℕ → Call → Outcome → Event
event lane call outcome = record { lane = lane; call = call; outcome = outcome }

-- the step is made, and left this
abbrev pub logged : Books → Kept → Event → Books
logged books kept one = record { kept = kept; events = books.events ++ one ∷ []; has_room = false }

-- how a change of the units ended
abbrev pub settled_as : Bool → Outcome
settled_as unsynced = if unsynced then Unsynced else Synced
