-- The import of a poll, as the ends of a lane's calls tell it.
use Rattle.std.specs.Prelude.{◌≡◌, ℕ, suc}
use Rattle.ix_machine.specs.declared.event.Outcome.{Outcome}
use Rattle.ix_machine.specs.declared.event.Outcome.TheVariants.{Done, Written, Shared, Clash, Synced, Unsynced, NoUnit, At, Removed, Nothing, Fault, Lost, Damaged}
use Rattle.ix_lanes.specs.declared.doing.Doing.TheVariants.{Importing}
use Rattle.ix_lanes.specs.declared.doing.Kind.TheVariants as kind
use Rattle.ix_lanes.specs.Progress.{Progress}
use Rattle.ix_lanes.specs.Tasks.{kind_of}
use Rattle.ix_model_run.specs.declared.progress.Import.{Import}

-- a call that ended at a mark opened the import there, and one that was done loaded one record more
abbrev pub import_after : Outcome → Import → Import
import_after Done import = record { mark = import.mark; records = suc import.records }
import_after Written import = import
import_after Shared import = import
import_after Clash import = import
import_after Synced import = import
import_after Unsynced import = import
import_after NoUnit import = import
import_after (At mark) import = record { mark = mark; records = 0 }
import_after (Removed name) import = import
import_after Nothing import = import
import_after Fault import = import
import_after (Lost name) import = import
import_after (Damaged name) import = import

-- where a poll imports, this is its import
abbrev pub IsImport : Progress → Import → Type 0
IsImport p import = (mark records : ℕ) → kind_of p.tasks ≡ kind.Poll → p.doing ≡ Importing mark records → (import.mark ≡ mark) × (import.records ≡ records)
