-- How a scan and a load ended, by their answers, and what they leave.
use Rattle.std.specs.Prelude.{ℕ, List, Option, Some, None, Result, Ok, Err}
use Rattle.ix_unit.specs.declared.batch.Scan.{Scan}
use Rattle.ix_shelf.specs.declared.fault.LoadError.{LoadError}
use Rattle.ix_shelf.specs.declared.fault.LoadError.TheVariants as load
use Rattle.ix_cabinet.specs.declared.fault.ScanError.{ScanError}
use Rattle.ix_cabinet.specs.declared.fault.ScanError.TheVariants as scan
use Rattle.ix_machine.specs.declared.event.Outcome.{Outcome}
use Rattle.ix_machine.specs.declared.event.Outcome.TheVariants.{Done, At, Fault, Lost, Damaged}
use Rattle.ix_machine.specs.declared.event.Purpose.{Purpose}
use Rattle.ix_machine.specs.declared.event.Purpose.TheVariants.{Import, Ask}
use Rattle.ix_ledger.specs.Effects.{opened, closed, load_failed}
use Rattle.ix_ledger.specs.Kept.{Kept}
use Rattle.ix_library.specs.declared.known.KnownStamps.{KnownStamps}

-- no stamps are known for an import
abbrev pub forgotten : KnownStamps → KnownStamps
forgotten known = record known { import = None }

-- ---- scan

-- how the machine ends a scan that failed so: not at all where memory was wanting
abbrev pub scan_flag : ScanError → Option Outcome
scan_flag scan.Fault = Some Fault
scan_flag (scan.Lost name) = Some (Lost name)
scan_flag (scan.Damaged name) = Some (Damaged name)
scan_flag scan.Memory = None

abbrev pub scan_ending : Result Scan ScanError → Option Outcome
scan_ending (Ok made) = Some (At made.mark)
scan_ending (Err e) = scan_flag e

-- behind a scan that failed no import is open
abbrev pub kept_behind_scan : Option Outcome → Kept → Kept
kept_behind_scan None kept = kept
kept_behind_scan (Some flag) kept = closed kept

-- a scan opens an import of the visible units
abbrev pub scan_leaves : {X : Type 0} → Result X ScanError → Kept → ℕ → Kept
scan_leaves (Ok made) kept lane = opened kept lane
scan_leaves (Err e) kept lane = kept_behind_scan (scan_flag e) kept

-- behind one that failed no stamps are known for an import
abbrev pub known_behind_scan : Option Outcome → KnownStamps → KnownStamps
known_behind_scan None known = known
known_behind_scan (Some flag) known = forgotten known

-- ---- load

-- how the machine ends a load that failed so: not at all where memory was wanting
abbrev pub load_flag : LoadError → Option Outcome
load_flag load.Fault = Some Fault
load_flag (load.Lost name) = Some (Lost name)
load_flag (load.Damaged name) = Some (Damaged name)
load_flag load.Memory = None

abbrev pub load_ending : {X : Type 0} → Result X LoadError → Option Outcome
load_ending (Ok value) = Some Done
load_ending (Err e) = load_flag e

-- behind a load for the import that failed none is open
abbrev pub kept_behind_load : Purpose → Option Outcome → Kept → Kept
kept_behind_load purpose None kept = kept
kept_behind_load purpose (Some flag) kept = load_failed kept purpose

abbrev pub load_leaves : {X : Type 0} → Purpose → Result X LoadError → Kept → Kept
load_leaves purpose (Ok value) kept = kept
load_leaves purpose (Err e) kept = kept_behind_load purpose (load_flag e) kept

-- and no stamps are known for one
abbrev pub known_behind_load : Purpose → Option Outcome → KnownStamps → KnownStamps
known_behind_load purpose None known = known
known_behind_load Import (Some flag) known = forgotten known
known_behind_load Ask (Some flag) known = known

abbrev pub load_knows : {X : Type 0} → Purpose → Result X LoadError → KnownStamps → KnownStamps
load_knows purpose (Ok value) known = known
load_knows purpose (Err e) known = known_behind_load purpose (load_flag e) known
