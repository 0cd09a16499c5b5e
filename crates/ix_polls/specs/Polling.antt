-- What a turn of a poll does, and a refresh.
use Rattle.std.specs.Prelude.{◌≡◌, ℕ, List, Option, None, Some, IfSome, Result, Ok, Err, option_map}
use Rattle.ix_dir.specs.State.{DirState}
use Rattle.ix_shelf.specs.Shelf.{OnShelf}
use Rattle.ix_record.specs.declared.value.RecordValue.{RecordValue}
use Rattle.ix_unit.specs.declared.batch.Scan.{Scan}
use Rattle.ix_model.specs.Units.{Units}
use Rattle.ix_outline.specs.Known.{AreTables}
use Rattle.ix_outline.specs.Outline.{outline_of}
use Rattle.ix_tables.specs.declared.tables.Version.{Version}
use Rattle.ix_machine.specs.declared.event.Call.{Call}
use Rattle.ix_machine.specs.declared.event.Call.TheVariants as call
use Rattle.ix_machine.specs.declared.event.Outcome.{Outcome}
use Rattle.ix_machine.specs.Given.{Given}
use Rattle.ix_machine.specs.Needs.{seen_at}
use Rattle.ix_machine.specs.State.{State}
use Rattle.ix_ledger.specs.Kept.{Kept}
use Rattle.ix_library.specs.declared.known.KnownStamps.{KnownStamps}
use Rattle.ix_library.specs.Endings.{flag_for}
use Rattle.ix_library.specs.StandsFor.{StandsFor, Takes}
use Rattle.ix_import.specs.Importing.{Importing, begun, abandoned, took}
use Rattle.ix_lanes.specs.Calls.{next_call}
use Rattle.ix_lanes.specs.Progress.{Progress, told}
use Rattle.ix_polls.specs.declared.polled.Polled.{Polled}
use Rattle.ix_polls.specs.Following.{IsImporting, IsUnderWay}

-- where the directory tells its moves, the library stands for some state that the importer follows
abbrev pub FollowsThere : (List ℕ → List ℕ) → Kept → OnShelf → KnownStamps → DirState → Importing → Type 0
FollowsThere name_of kept shelf known dir importer = IfSome dir.moves (λ moves. (s : State) × StandsFor name_of s kept shelf known dir × IsImporting s importer)

-- what a lane holds behind a call: the version that it took up, which is that of its mark, or what it held before
abbrev pub HoldsNow : (ℕ → Units) → Option ℕ → Option ℕ → Option Version → Type 0
HoldsNow seen before now None = now ≡ before
HoldsNow seen before now (Some version) = (now ≡ Some version.number) × AreTables (seen version.number) version.tables

-- the version that a turn took up
abbrev pub version_of : Polled → Option Version
version_of made = option_map (λ v. v.value) made.version

-- the call is the one that the lane makes next. The machine takes it and ends it so, the library stands for the state after, which the importer follows, and once
-- the lane is told how the call ended it is as far with its import as the importer, and holds the version that it took up
pub record Polls (name_of : List ℕ → List ℕ) (s : State) (lane : ℕ) (p : Progress) (given : Given) (outcome : Outcome) (version : Option Version)
    (before : DirState) (kept : Kept) (shelf : OnShelf) (known : KnownStamps) (dir : DirState) (importer : Importing) : Type 0 where
  pub next : next_call (seen_at s) s.current p ≡ Some given
  pub takes : Takes name_of s lane given (flag_for outcome) outcome before kept shelf known dir
  pub imports : IsImporting takes.next importer
  pub under_way : IsUnderWay takes.next lane (told outcome p).doing importer
  pub holds : HoldsNow (seen_at takes.next) p.held (told outcome p).held version

-- the call that a turn of an open import shows: the load of its next new name, or its install
abbrev pub import_shows : Option (List ℕ) → Call
import_shows None = call.Install
import_shows (Some name) = call.Load name

-- how a turn ended; None where memory was wanting
abbrev pub poll_ends : {E : Type 0} → Result Polled E → Option Outcome
poll_ends (Ok made) = Some made.outcome
poll_ends (Err e) = None

-- an import of the scan is open, or none where there is no scan
abbrev pub followed : Option Scan → Importing → Importing
followed None importer = abandoned importer
followed (Some scan) importer = begun scan importer

-- a loaded record is taken under its name; where there is none, no import is open
abbrev pub loaded_into : List ℕ → Option RecordValue → Importing → Importing
loaded_into name None importer = abandoned importer
loaded_into name (Some value) importer = took name (outline_of value) importer
