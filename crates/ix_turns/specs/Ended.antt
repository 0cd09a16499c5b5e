-- How calls of a library end, whichever they are.
use Rattle.std.specs.Prelude.{Bool, true, false, Option, Some, None, Result, Ok, Err}
use Rattle.ix_counts.specs.Counting.{is_failure}
use Rattle.ix_machine.specs.declared.event.Outcome.{Outcome}
use Rattle.ix_machine.specs.declared.event.Outcome.TheVariants.{Done, Written, Shared, Clash, Synced, Unsynced, NoUnit, At, Removed, Nothing, Fault, Lost, Damaged}

-- the call ended so; None where memory was wanting
abbrev pub ending : {E : Type 0} → Result Outcome E → Option Outcome
ending (Ok outcome) = Some outcome
ending (Err e) = None

-- whether the outcome says that a file is lost or damaged
abbrev pub is_missed : Outcome → Bool
is_missed Done = false
is_missed Written = false
is_missed Shared = false
is_missed Clash = false
is_missed Synced = false
is_missed Unsynced = false
is_missed NoUnit = false
is_missed (At mark) = false
is_missed (Removed name) = false
is_missed Nothing = false
is_missed Fault = false
is_missed (Lost name) = true
is_missed (Damaged name) = true

-- whether it ended with an outcome that says that the directory failed
abbrev pub call_failed : Option Outcome → Bool
call_failed None = false
call_failed (Some outcome) = is_failure outcome
