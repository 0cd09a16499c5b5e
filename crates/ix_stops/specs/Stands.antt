-- What a directory that tells its moves holds of a state of the machine.
use Rattle.std.specs.Prelude.{◌≡◌, ℕ, List}
use Rattle.std.specs.Map.{lookup}
use Rattle.std.specs.BTreeMap.{is_at}
use Rattle.ix_types.specs.Row.{text_cmp}
use Rattle.ix_dir.specs.declared.area.Area.TheVariants.{Records}
use Rattle.ix_dir.specs.declared.moves.Move.{Move}
use Rattle.ix_dir.specs.Files.{bytes_at}
use Rattle.ix_dir.specs.Moves.{area_after}
use Rattle.ix_machine.specs.State.{Files, State}
use Rattle.ix_machine.specs.declared.event.Outcome.{Outcome}
use Rattle.ix_machine.specs.declared.event.Outcome.TheVariants.{Done}
use Rattle.ix_machine.specs.declared.event.Outcome.TheVariants as outcome
use Rattle.ix_cabinet.specs.declared.change.Settled.{Settled}
use Rattle.ix_cabinet.specs.declared.change.Settled.TheVariants.{Synced, Unsynced}
use Rattle.ix_stops.specs.OnDisk.{IsOnDisk}

-- the record files are those of the records area
abbrev pub FilesStand : Files → List Move → Type 0
FilesStand records moves = (name : List ℕ) → lookup (is_at (text_cmp name)) records ≡ bytes_at (area_after moves Records) name

-- both areas hold what the state says
pub record StandsOnDisk (name_of : List ℕ → List ℕ) (s : State) (moves : List Move) : Type 0 where
  pub records : FilesStand s.records moves
  pub disk : IsOnDisk name_of s.pending s.publications moves

-- the flag of a change of the units, by the sync behind it
abbrev pub flag_of : Settled → Outcome
flag_of Synced = Done
flag_of Unsynced = outcome.Unsynced

-- how such a change ends
abbrev pub outcome_of : Settled → Outcome
outcome_of Synced = outcome.Synced
outcome_of Unsynced = outcome.Unsynced
