-- What the calls change of what a ledger keeps.
use Rattle.std.specs.Prelude.{◌≡◌, ℕ, ◌+◌, if◌then◌else◌, Bool, List, replicate, Option, Some, None, option_map, option_and_then, slice_set}
use Rattle.std.specs.Map.{remove_entry}
use Rattle.std.specs.BTreeMap.{insert_entry, is_at}
use Rattle.std.specs.Str.{bytes_eq}
use Rattle.ix_types.specs.Row.{text_cmp}
use Rattle.ix_unit.specs.declared.value.UnitValue.{UnitValue}
use Rattle.ix_model.specs.declared.publication.Publication.{Publication}
use Rattle.ix_model.specs.declared.publication.Publication.TheVariants.{Put, Gone}
use Rattle.ix_machine.specs.State.{Import}
use Rattle.ix_machine.specs.declared.event.Outcome.{Outcome}
use Rattle.ix_machine.specs.declared.event.Outcome.TheVariants.{Done, Written, Shared, Clash, Synced, Unsynced, NoUnit, At, Removed, Nothing, Fault, Lost, Damaged}
use Rattle.ix_machine.specs.declared.event.Purpose.{Purpose}
use Rattle.ix_machine.specs.declared.event.Purpose.TheVariants as purposes
use Rattle.ix_guard.specs.Counts.{Counts}
use Rattle.ix_guard.specs.Guarding.{Guarding, guarding_nothing, lease_of_names, lease_of, with_put}
use Rattle.ix_guard.specs.Guarding as guard
use Rattle.ix_guard.specs.Listing.{need_list_of}
use Rattle.ix_ledger.specs.Kept.{Kept, Named, as_units, unit_at, staged_in}

-- the start: these units are visible, each published once
abbrev pub kept_at_first : Named → ℕ → ℕ → Kept
kept_at_first units published lanes = record {
  guard = record (guarding_nothing lanes) { visible = need_list_of (as_units units) };
  units = units;
  published = published;
  pending = None;
  import = None;
  current = 0;
  held = replicate lanes None;
  staged = replicate lanes None;
}

-- the guard has this lease of the lane, or none
abbrev pub with_lease : Guarding → ℕ → Option guard.Lease → Guarding
with_lease g lane lease = record g { leases = slice_set g.leases lane lease }

-- the lane leases the names, and has staged nothing
abbrev pub leased : Kept → ℕ → List (List ℕ) → Kept
leased kept lane names = record kept { guard = with_lease kept.guard lane (Some (lease_of_names names)); staged = slice_set kept.staged lane None }

-- the name is noted as put under the lane's lease
abbrev pub noted : Kept → ℕ → List ℕ → Kept
noted kept lane name = record kept { guard = with_lease kept.guard lane (option_map (with_put name) (lease_of kept.guard lane)) }

-- the lane has no lease, and nothing staged
abbrev pub dropped : Kept → ℕ → Kept
dropped kept lane = record kept { guard = with_lease kept.guard lane None; staged = slice_set kept.staged lane None }

-- the lane has staged the unit
abbrev pub staging : Kept → ℕ → UnitValue → Kept
staging kept lane unit = record kept { staged = slice_set kept.staged lane (Some unit) }

-- ---- changes of the units

-- the visible units after a change, and the number of publications then
pub record Changed : Type 0 where
  pub units : Named
  pub published : ℕ

-- the unit comes, or replaces the one of its name
abbrev pub with_unit : Kept → List ℕ → UnitValue → Changed
with_unit kept name unit = record { units = insert_entry text_cmp kept.units name unit; published = kept.published + 1 }

-- the unit of the name goes
abbrev pub without_unit : Kept → List ℕ → Changed
without_unit kept name = record { units = remove_entry (is_at (text_cmp name)) kept.units; published = kept.published + 1 }

-- what a publication changes
abbrev pub change_for : Kept → Publication → Changed
change_for kept (Put name stored) = with_unit kept name stored.unit
change_for kept (Gone name) = without_unit kept name

-- by the visible unit of the name: none where it has another output path
abbrev pub publish_over : Kept → List ℕ → UnitValue → Option UnitValue → Option Changed
publish_over kept name unit None = Some (with_unit kept name unit)
publish_over kept name unit (Some other) = if bytes_eq other.output unit.output then Some (with_unit kept name unit) else None

-- what the publish of a lane changes. None where a visible unit of the name has another output path
abbrev pub publish_change : Kept → ℕ → List ℕ → Option Changed
publish_change kept lane name = option_and_then (λ unit. publish_over kept name unit (unit_at name kept.units)) (staged_in kept lane)

-- by the visible unit of the name: none where it has another output path
abbrev pub remove_over : Kept → List ℕ → List ℕ → Option UnitValue → Option Changed
remove_over kept name output None = None
remove_over kept name output (Some other) = if bytes_eq other.output output then Some (without_unit kept name) else None

-- what a removal of an output path changes, by the path's name. None where no visible unit has it
abbrev pub remove_change : Kept → List ℕ → List ℕ → Option Changed
remove_change kept name output = remove_over kept name output (unit_at name kept.units)

-- the units are these now. Where the change is unsynced, it pends, and what the units before it needed stays
abbrev pub changed : Kept → Changed → Bool → Kept
changed kept change unsynced = record kept {
  guard = record kept.guard { visible = need_list_of (as_units change.units); unsynced = (if unsynced then Some kept.guard.visible else None) };
  units = change.units;
  published = change.published;
  pending = (if unsynced then Some kept.published else None);
}

-- no change of the units pends
abbrev pub settled : Kept → Kept
settled kept = record kept { guard = record kept.guard { unsynced = None }; pending = None }

-- ---- versions

-- an import of the visible units is open, by this lane
abbrev pub opened : Kept → ℕ → Kept
opened kept lane = record kept {
  guard = record kept.guard { import = Some kept.guard.visible };
  import = Some (record { lane = lane; mark = kept.published });
}

-- no import is open
abbrev pub closed : Kept → Kept
closed kept = record kept { guard = record kept.guard { import = None }; import = None }

-- the mark and what its units need are the current version's, which the lane holds
abbrev pub installed_at : Kept → ℕ → ℕ → Counts → Kept
installed_at kept lane mark needs = record kept {
  guard = record kept.guard { import = None; current = needs; held = slice_set kept.guard.held lane (Some needs) };
  import = None;
  current = mark;
  held = slice_set kept.held lane (Some mark);
}

-- the same for the open import, if there is one
abbrev pub installed_over : Kept → ℕ → Option Import → Option Counts → Kept
installed_over kept lane None needs = kept
installed_over kept lane (Some open_import) None = kept
installed_over kept lane (Some open_import) (Some needs) = installed_at kept lane open_import.mark needs

abbrev pub installed : Kept → ℕ → Kept
installed kept lane = installed_over kept lane kept.import kept.guard.import

-- the lane holds the current version
abbrev pub adopted : Kept → ℕ → Kept
adopted kept lane = record kept {
  guard = record kept.guard { held = slice_set kept.guard.held lane (Some kept.guard.current) };
  held = slice_set kept.held lane (Some kept.current);
}

-- the lane holds nothing
abbrev pub released : Kept → ℕ → Kept
released kept lane = record kept {
  guard = record kept.guard { held = slice_set kept.guard.held lane None };
  held = slice_set kept.held lane None;
}

-- ---- failures

-- a load for an import that fails closes it
abbrev pub load_failed : Kept → Purpose → Kept
load_failed kept purposes.Import = closed kept
load_failed kept purposes.Ask = kept

-- how a load of the record may fail
abbrev pub IsFailureOf : List ℕ → Outcome → Type 0
IsFailureOf name Done = ⊥
IsFailureOf name Written = ⊥
IsFailureOf name Shared = ⊥
IsFailureOf name Clash = ⊥
IsFailureOf name Synced = ⊥
IsFailureOf name Unsynced = ⊥
IsFailureOf name NoUnit = ⊥
IsFailureOf name (At mark) = ⊥
IsFailureOf name (Removed other) = ⊥
IsFailureOf name Nothing = ⊥
IsFailureOf name Fault = Unit {0}
IsFailureOf name (Lost other) = other ≡ name
IsFailureOf name (Damaged other) = other ≡ name

-- how a scan may fail
abbrev pub IsFailure : Outcome → Type 0
IsFailure Done = ⊥
IsFailure Written = ⊥
IsFailure Shared = ⊥
IsFailure Clash = ⊥
IsFailure Synced = ⊥
IsFailure Unsynced = ⊥
IsFailure NoUnit = ⊥
IsFailure (At mark) = ⊥
IsFailure (Removed other) = ⊥
IsFailure Nothing = ⊥
IsFailure Fault = Unit {0}
IsFailure (Lost other) = Unit {0}
IsFailure (Damaged other) = Unit {0}
