-- How an importer follows the machine, and how far the import of a lane's poll is.
use Rattle.std.specs.Prelude.{◌≡◌, ℕ, Bool, true, false, List, take, drop, Option, None, Some, IfSome}
use Rattle.std.specs.List.{AllByRecursion}
use Rattle.ix_types.specs.Row.{text_cmp}
use Rattle.ix_pages.specs.Pairs.{look_up}
use Rattle.ix_outline.specs.Known.{AreTables}
use Rattle.ix_machine.specs.declared.event.Purpose.{Purpose}
use Rattle.ix_machine.specs.declared.event.Purpose.TheVariants as purpose
use Rattle.ix_machine.specs.Given.{Given, Lease, Put, Stage, Publish, Remove, Scan, Load, Install, Adopt, Release, Collect}
use Rattle.ix_machine.specs.Needs.{seen_at}
use Rattle.ix_machine.specs.State as state
use Rattle.ix_machine.specs.State.{State}
use Rattle.ix_import.specs.Importing.{Opened, Importing as Importer, AreTaken}
use Rattle.ix_import.specs.Leading.{IsImportOf, AreOutlinesOf}
use Rattle.ix_lanes.specs.Calls.{fresh_in}
use Rattle.ix_lanes.specs.declared.doing.Doing.{Doing}
use Rattle.ix_lanes.specs.declared.doing.Doing.TheVariants.{Begun, Putting, Staged, Importing}

-- the importer's open import is the machine's: it is of that mark, leads there from the units at the current one, and its new names are those that a poll loads
pub record IsOpenAs (s : State) (import : state.Import) (opened : Opened) : Type 0 where
  pub mark : opened.mark ≡ import.mark
  pub leads : IsImportOf (seen_at s s.current) (seen_at s import.mark) opened
  pub outlines : AreOutlinesOf (seen_at s import.mark) opened
  pub fresh : opened.fresh ≡ fresh_in (seen_at s s.current) (seen_at s import.mark)

-- the importer has an import open exactly where the machine has
abbrev pub AreOpen : State → Option state.Import → Option Opened → Type 0
AreOpen s None None = Unit {0}
AreOpen s None (Some opened) = ⊥
AreOpen s (Some import) None = ⊥
AreOpen s (Some import) (Some opened) = IsOpenAs s import opened

-- the importer follows the machine: its version is that of the current mark, and its open import the machine's
pub record IsImporting (s : State) (importer : Importer) : Type 0 where
  pub number : importer.number ≡ s.current
  pub tables : AreTables (seen_at s s.current) importer.known
  pub opened : AreOpen s s.import importer.import

-- of the new names so many from the front were taken, and no other
pub record HasTaken (records : ℕ) (opened : Opened) : Type 0 where
  pub front : AreTaken opened.taken (take records opened.fresh)
  pub rest : AllByRecursion (λ name. look_up text_cmp opened.taken name ≡ None) (drop records opened.fresh)

-- the open import is the lane's, of this mark, and so many of its records were loaded
pub record IsOwnImport (s : State) (lane mark records : ℕ) (importer : Importer) : Type 0 where
  pub own : s.import ≡ Some (record { lane = lane; mark = mark })
  pub taken : IfSome importer.import (HasTaken records)

-- where a lane is at an import, that is the open one
abbrev pub IsUnderWay : State → ℕ → Doing → Importer → Type 0
IsUnderWay s lane Begun importer = Unit {0}
IsUnderWay s lane (Putting files) importer = Unit {0}
IsUnderWay s lane Staged importer = Unit {0}
IsUnderWay s lane (Importing mark records) importer = IsOwnImport s lane mark records importer

-- whether a step is that of no poll, so that it leaves the import as it is
abbrev pub is_for_ask : Purpose → Bool
is_for_ask purpose.Import = false
is_for_ask purpose.Ask = true

abbrev pub leaves_import : Given → Bool
leaves_import (Lease names) = true
leaves_import (Put body) = true
leaves_import (Stage unit) = true
leaves_import Publish = true
leaves_import (Remove output) = true
leaves_import Scan = false
leaves_import (Load name purpose) = is_for_ask purpose
leaves_import Install = false
leaves_import Adopt = true
leaves_import Release = true
leaves_import Collect = true
