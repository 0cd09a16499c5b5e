-- What an outcome says by itself.
use Rattle.std.specs.Prelude.{Bool, true, false}
use Rattle.ix_machine.specs.declared.event.Outcome.{Outcome}
use Rattle.ix_machine.specs.declared.event.Outcome.TheVariants.{Done, Written, Shared, Clash, Synced, Unsynced, NoUnit, At, Removed, Nothing, Fault, Lost, Damaged}

-- whether the step is made, with no more to say
abbrev pub is_done : Outcome → Bool
is_done Done = true
is_done Written = false
is_done Shared = false
is_done Clash = false
is_done Synced = false
is_done Unsynced = false
is_done NoUnit = false
is_done (At mark) = false
is_done (Removed name) = false
is_done Nothing = false
is_done Fault = false
is_done (Lost name) = false
is_done (Damaged name) = false
