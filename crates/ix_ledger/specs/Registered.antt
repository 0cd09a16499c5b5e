-- What a register's fields stand for, and what is true of them.
use Rattle.std.specs.Prelude.{◌≡◌, ◌==◌, ℕ, Bool, List, length, map, Option, None, Some}
use Rattle.std.specs.Option.{is_some}
use Rattle.ix_dir.specs.declared.dir.Listed.{Listed}
use Rattle.ix_machine.specs.Needs.{option_any}
use Rattle.ix_machine.specs.State.{Import}
use Rattle.ix_guard.specs.Listing.{need_list_of}
use Rattle.ix_guard.specs.Protection.{IsFirstLoose}
use Rattle.ix_ledger.specs.declared.import.Import as code
use Rattle.ix_ledger.specs.Kept.{Kept, as_units}

abbrev pub import_seen : code.Import → Import
import_seen i = record { lane = i.lane; mark = i.mark }

-- the visible need list is that of the units, an import has a need list exactly where it is open, and each lane has its place
pub record IsRegister (kept : Kept) : Type 0 where
  pub needs : kept.guard.visible ≡ need_list_of (as_units kept.units)
  pub imported : is_some kept.guard.import ≡ is_some kept.import
  pub held : length kept.held ≡ length kept.guard.leases
  pub staged : length kept.staged ≡ length kept.guard.leases

-- the first loose one of the listed records, as if no change pended
abbrev pub IsFirstListed : Kept → List Listed → Option (List ℕ) → Type 0
IsFirstListed kept listed first = IsFirstLoose (record kept.guard { unsynced = None }) (map (λ one. one.name) listed) first

-- whether the lane opened the import that is open
abbrev pub has_opened : Kept → ℕ → Bool
has_opened kept lane = option_any (λ open_import. open_import.lane == lane) kept.import
