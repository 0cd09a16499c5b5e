-- How scans and loads end.
use Rattle.std.specs.Prelude.{Bool, true, false, Option, Some, None, Result, Ok, Err}
use Rattle.ix_machine.specs.declared.event.Outcome.{Outcome}
use Rattle.ix_machine.specs.declared.event.Outcome.TheVariants.{Done, Written, Shared, Clash, Synced, Unsynced, NoUnit, At, Removed, Nothing, Fault, Lost, Damaged}
use Rattle.ix_turns.specs.declared.looks.Scanned.{Scanned}
use Rattle.ix_turns.specs.declared.looks.Loaded.{Loaded}

-- the scan ended so; None where memory was wanting
abbrev pub scan_ends : {E : Type 0} → Result Scanned E → Option Outcome
scan_ends (Ok made) = Some made.outcome
scan_ends (Err e) = None

abbrev pub load_ends : {E : Type 0} → Result Loaded E → Option Outcome
load_ends (Ok made) = Some made.outcome
load_ends (Err e) = None

-- whether the outcome says that a look failed: a fault, or a file that is lost or damaged
abbrev pub look_failed : Outcome → Bool
look_failed Done = false
look_failed Written = false
look_failed Shared = false
look_failed Clash = false
look_failed Synced = false
look_failed Unsynced = false
look_failed NoUnit = false
look_failed (At mark) = false
look_failed (Removed name) = false
look_failed Nothing = false
look_failed Fault = true
look_failed (Lost name) = true
look_failed (Damaged name) = true
