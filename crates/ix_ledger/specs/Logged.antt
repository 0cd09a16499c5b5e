-- What happened.
use Rattle.std.specs.Prelude.{Bool, List}
use Rattle.ix_machine.specs.declared.event.Event.{Event}

pub record Logged : Type 0 where
  -- the first event first
  pub events : List Event
  -- whether one more event can be written down without memory
  pub has_room : Bool
