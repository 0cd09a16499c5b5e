-- What is kept of the machine's state beside it, so that it can be read: what each call leaves of it, by its outcome.
use Rattle.std.specs.Prelude.{◌≡◌, ℕ, if◌then◌else◌, Bool, true, false, List, [], ◌∷◌, ◌++◌, length, slice_index_or, slice_set, Option, Some, None, option_map}
use Rattle.std.specs.Str.{bytes_eq}
use Rattle.std.specs.Map.{remove_entry}
use Rattle.std.specs.BTreeMap.{insert_entry, is_at}
use Rattle.ix_types.specs.Row.{text_cmp}
use Rattle.ix_record.specs.declared.body.Body.{Body}
use Rattle.ix_unit.specs.declared.value.UnitValue.{UnitValue}
use Rattle.ix_model.specs.declared.publication.Publication.{Publication}
use Rattle.ix_model.specs.declared.publication.Publication.TheVariants as model
use Rattle.ix_model.specs.declared.publication.StoredUnit.{StoredUnit}
use Rattle.ix_model.specs.Units.{units_after}
use Rattle.ix_machine.specs.declared.event.Call.{Call}
use Rattle.ix_machine.specs.declared.event.Call.TheVariants as call
use Rattle.ix_machine.specs.declared.event.Outcome.{Outcome}
use Rattle.ix_machine.specs.declared.event.Outcome.TheVariants.{Done, Written, Shared, Clash, Synced, Unsynced, NoUnit, At, Removed, Nothing, Fault, Lost, Damaged}
use Rattle.ix_machine.specs.Given.{Given, Lease, Put, Stage, Publish, Remove, Scan, Load, Install, Adopt, Release, Collect}
use Rattle.ix_machine.specs.State.{State, Files}
use Rattle.ix_machine.specs.Step.{values_of, name_with_output, staged_by}

pub record Kept : Type 0 where
  -- all publications, the first of them first
  pub publications : List Publication
  -- the record files
  pub records : Files
  -- the mark of the current version
  pub current : ℕ
  -- for each lane the unit that it staged last
  pub staged : List (Option UnitValue)

-- it is what the state has, and what a lane has staged is what it staged last
pub record Follows (kept : Kept) (s : State) : Type 0 where
  pub publications : kept.publications ≡ s.publications
  pub records : kept.records ≡ s.records
  pub current : kept.current ≡ s.current
  pub room : length kept.staged ≡ length s.leases
  pub staged : (lane : ℕ) (unit : UnitValue) → staged_by s lane ≡ Some unit → slice_index_or kept.staged lane None ≡ Some unit

-- ---- what outcomes say

abbrev pub is_written : Outcome → Bool
is_written Done = false
is_written Written = true
is_written Shared = false
is_written Clash = false
is_written Synced = false
is_written Unsynced = false
is_written NoUnit = false
is_written (At mark) = false
is_written (Removed name) = false
is_written Nothing = false
is_written Fault = false
is_written (Lost name) = false
is_written (Damaged name) = false

abbrev pub is_staged : Outcome → Bool
is_staged Done = true
is_staged Written = false
is_staged Shared = false
is_staged Clash = false
is_staged Synced = false
is_staged Unsynced = false
is_staged NoUnit = false
is_staged (At mark) = false
is_staged (Removed name) = false
is_staged Nothing = false
is_staged Fault = false
is_staged (Lost name) = false
is_staged (Damaged name) = false

-- a units change was made, whether or not it is synced
abbrev pub is_made : Outcome → Bool
is_made Done = false
is_made Written = false
is_made Shared = false
is_made Clash = false
is_made Synced = true
is_made Unsynced = true
is_made NoUnit = false
is_made (At mark) = false
is_made (Removed name) = false
is_made Nothing = false
is_made Fault = false
is_made (Lost name) = false
is_made (Damaged name) = false

abbrev pub mark_in : Outcome → Option ℕ
mark_in Done = None
mark_in Written = None
mark_in Shared = None
mark_in Clash = None
mark_in Synced = None
mark_in Unsynced = None
mark_in NoUnit = None
mark_in (At mark) = Some mark
mark_in (Removed name) = None
mark_in Nothing = None
mark_in Fault = None
mark_in (Lost name) = None
mark_in (Damaged name) = None

abbrev pub removed_in : Outcome → Option (List ℕ)
removed_in Done = None
removed_in Written = None
removed_in Shared = None
removed_in Clash = None
removed_in Synced = None
removed_in Unsynced = None
removed_in NoUnit = None
removed_in (At mark) = None
removed_in (Removed name) = Some name
removed_in Nothing = None
removed_in Fault = None
removed_in (Lost name) = None
removed_in (Damaged name) = None

-- ---- what a call leaves

abbrev pub with_record : Body → Kept → Kept
with_record body k = record k { records = insert_entry text_cmp k.records body.name body.bytes }

abbrev pub with_unit : ℕ → UnitValue → Kept → Kept
with_unit lane unit k = record k { staged = slice_set k.staged lane (Some unit) }

abbrev pub with_publication : Publication → Kept → Kept
with_publication publication k = record k { publications = k.publications ++ publication ∷ [] }

-- what the lane staged last
abbrev pub staged_in : Kept → ℕ → Option UnitValue
staged_in k lane = slice_index_or k.staged lane None

-- the unit comes under its name, with the values that the files of its records spell
abbrev pub publishing : (List ℕ → List ℕ) → Option UnitValue → Kept → Kept
publishing name_of None k = k
publishing name_of (Some unit) k = with_publication (model.Put (name_of unit.output) (record { unit = unit; values = values_of k.records unit.records })) k

abbrev pub removing : Option (List ℕ) → Kept → Kept
removing None k = k
removing (Some name) k = with_publication (model.Gone name) k

abbrev pub with_current : Option ℕ → Kept → Kept
with_current None k = k
with_current (Some mark) k = record k { current = mark }

abbrev pub without_record : Option (List ℕ) → Kept → Kept
without_record None k = k
without_record (Some name) k = record k { records = remove_entry (is_at (text_cmp name)) k.records }

-- what a lane's call leaves that ended so
abbrev pub kept_after : (List ℕ → List ℕ) → ℕ → Given → Outcome → Kept → Kept
kept_after name_of lane (Lease names) outcome k = k
kept_after name_of lane (Put body) outcome k = if is_written outcome then with_record body k else k
kept_after name_of lane (Stage unit) outcome k = if is_staged outcome then with_unit lane unit k else k
kept_after name_of lane Publish outcome k = if is_made outcome then publishing name_of (staged_in k lane) k else k
kept_after name_of lane (Remove output) outcome k = if is_made outcome then removing (name_with_output output (units_after k.publications)) k else k
kept_after name_of lane Scan outcome k = k
kept_after name_of lane (Load name purpose) outcome k = k
kept_after name_of lane Install outcome k = with_current (mark_in outcome) k
kept_after name_of lane Adopt outcome k = k
kept_after name_of lane Release outcome k = k
kept_after name_of lane Collect outcome k = without_record (removed_in outcome) k

-- what was found, or the name of the unit where it has the output path
abbrev pub or_named : List ℕ → Option (List ℕ) → List ℕ × StoredUnit → Option (List ℕ)
or_named output (Some name) entry = Some name
or_named output None entry = if bytes_eq entry.1.unit.output output then Some entry.0 else None

-- the call that an event shows; none where a lane publishes that staged nothing
abbrev pub call_in : (List ℕ → List ℕ) → Kept → ℕ → Given → Option Call
call_in name_of k lane (Lease names) = Some (call.Lease names)
call_in name_of k lane (Put body) = Some (call.Put body.name)
call_in name_of k lane (Stage unit) = Some (call.Stage (name_of unit.output))
call_in name_of k lane Publish = option_map (λ unit. call.Publish (name_of unit.output)) (staged_in k lane)
call_in name_of k lane (Remove output) = Some (call.Remove (name_of output))
call_in name_of k lane Scan = Some call.Scan
call_in name_of k lane (Load name purpose) = Some (call.Load name)
call_in name_of k lane Install = Some call.Install
call_in name_of k lane Adopt = Some call.Adopt
call_in name_of k lane Release = Some call.Release
call_in name_of k lane Collect = Some call.Collect
