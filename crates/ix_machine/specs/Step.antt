-- The machine: what each of its eleven calls answers, and what it leaves.
use Rattle.std.specs.Prelude.{ℕ, ◌==◌, if◌then◌else◌, Bool, true, false, List, [], ◌∷◌, ◌++◌, length, slice_set, Option, Some, None, option_map, option_and_then, Ok, Err}
use Rattle.std.specs.List.{filter_map, find}
use Rattle.std.specs.Map.{lookup, remove_entry}
use Rattle.std.specs.BTreeMap.{insert_entry, is_at}
use Rattle.std.specs.Str.{bytes_eq}
use Rattle.ix_types.specs.Row.{text_cmp}
use Rattle.ix_wire.specs.Input.{start}
use Rattle.ix_record.specs.declared.body.Body.{Body}
use Rattle.ix_record.specs.declared.value.RecordValue.{RecordValue}
use Rattle.ix_record.specs.Reading.{Read, record_at}
use Rattle.ix_unit.specs.declared.value.RecordDep.{RecordDep}
use Rattle.ix_unit.specs.declared.value.UnitValue.{UnitValue}
use Rattle.ix_model.specs.declared.publication.StoredUnit.{StoredUnit}
use Rattle.ix_model.specs.declared.publication.Publication.{Publication}
use Rattle.ix_model.specs.Units.{Units, unit_named}
use Rattle.ix_model.specs.declared.publication.Publication.TheVariants as model
use Rattle.ix_machine.specs.declared.event.Outcome.{Outcome}
use Rattle.ix_machine.specs.declared.event.Outcome.TheVariants.{Done, Written, Shared, Clash, Synced, Unsynced, NoUnit, At, Removed, Nothing, Fault, Lost, Damaged}
use Rattle.ix_machine.specs.declared.event.Purpose.{Purpose}
use Rattle.ix_machine.specs.declared.event.Purpose.TheVariants.{Import, Ask}
use Rattle.ix_machine.specs.Given.{Given, Lease, Put, Stage, Publish, Remove, Scan, Load, Install, Adopt, Release, Collect}
use Rattle.ix_machine.specs.Needs.{visible, is_guarded, settled, loose}
use Rattle.ix_machine.specs.State as state
use Rattle.ix_machine.specs.State.{State, Files, lease_of, with_put, with_staged}

-- ---- what a call may do

-- how a step ends, and the state that it leaves
pub record Stepped : Type 0 where
  pub outcome : Outcome
  pub state : State

-- all that a call may do in a state
pub record Row : Type 0 where
  -- what it does where nothing fails
  pub plain : Stepped
  -- the state behind a fault, where one may come
  pub faulted : Option State
  -- the state where the change is made and its sync failed, where that may come
  pub unsynced : Option State
  -- whether the file of a name may turn out lost or damaged
  pub misses : List ℕ → Bool

abbrev pub ended : Outcome → State → Stepped
ended outcome s = record { outcome = outcome; state = s }

-- a call that can't fail
abbrev pub sure : Outcome → State → Row
sure outcome s = record { plain = ended outcome s; faulted = None; unsynced = None; misses = λ _. false }

-- a call that may end with a fault
abbrev pub may_fault : Outcome → State → State → Row
may_fault outcome s faulted = record { plain = ended outcome s; faulted = Some faulted; unsynced = None; misses = λ _. false }

-- what the call does with a flag: Done where nothing fails, else the outcome of what failed. None where the call doesn't allow the flag
abbrev pub flagged : Row → Outcome → Option Stepped
flagged row Done = Some row.plain
flagged row Fault = option_map (ended Fault) row.faulted
flagged row Unsynced = option_map (ended Unsynced) row.unsynced
flagged row (Lost name) = if row.misses name then option_map (ended (Lost name)) row.faulted else None
flagged row (Damaged name) = if row.misses name then option_map (ended (Damaged name)) row.faulted else None
flagged row Written = None
flagged row Shared = None
flagged row Clash = None
flagged row Synced = None
flagged row NoUnit = None
flagged row (At mark) = None
flagged row (Removed name) = None
flagged row Nothing = None

-- ---- changes of a state

-- the lane's lease is this one, or none
abbrev pub with_lease : State → ℕ → Option state.Lease → State
with_lease s lane lease = record s { leases = slice_set s.leases lane lease }

-- the lane's lease is dropped, and the unit that it had staged
abbrev pub dropped : State → ℕ → State
dropped s lane = with_lease s lane None

-- the lane holds this mark, or none
abbrev pub holding : State → ℕ → Option ℕ → State
holding s lane mark = record s { held = slice_set s.held lane mark }

-- one publication more, and whether it is pending
abbrev pub publishing : State → Publication → Option ℕ → State
publishing s publication pending = record s { publications = s.publications ++ publication ∷ []; pending = pending }

-- ---- the calls

abbrev pub lease : State → ℕ → List (List ℕ) → Row
lease s lane names = sure Done (with_lease s lane (Some (record { names = names; put = []; staged = None })))

-- the name is noted as put under the lane's lease
abbrev pub noted : State → ℕ → List ℕ → State
noted s lane name = with_lease s lane (option_map (with_put name) (lease_of s lane))

abbrev pub write : State → ℕ → Body → Row
write s lane body = may_fault Written (noted (record s { records = insert_entry text_cmp s.records body.name body.bytes }) lane body.name) (dropped s lane)

-- by the bytes that stand under the name
abbrev pub put_over : State → ℕ → Body → Option (List ℕ) → Row
put_over s lane body None = write s lane body
put_over s lane body (Some bytes) =
    if bytes_eq bytes body.bytes then may_fault Shared (noted s lane body.name) (dropped s lane)
    else (if is_guarded s lane body.name then may_fault Clash (dropped s lane) (dropped s lane) else write s lane body)

abbrev pub put : State → ℕ → Body → Row
put s lane body = put_over s lane body (lookup (is_at (text_cmp body.name)) s.records)

abbrev pub stage : State → ℕ → UnitValue → Row
stage s lane unit = may_fault Done (with_lease s lane (option_map (with_staged unit) (lease_of s lane))) (dropped s lane)

abbrev pub read_value : Read RecordValue → Option RecordValue
read_value (Ok v) = Some v.0
read_value (Err e) = None

-- the value that the bytes of a record file spell
abbrev pub value_of : List ℕ → Option RecordValue
value_of bytes = read_value (record_at (start bytes))

-- the values of records, by the files that stand under their names
abbrev pub values_of : Files → List RecordDep → List RecordValue
values_of records deps = filter_map (λ dep. option_and_then value_of (lookup (is_at (text_cmp dep.name)) records)) deps

abbrev pub stored_unit : State → UnitValue → StoredUnit
stored_unit s unit = record { unit = unit; values = values_of s.records unit.records }

-- one units change more, which may be left unsynced
abbrev pub change : State → State → Publication → Row
change s faulted publication = record {
  plain = ended Synced (publishing s publication None);
  faulted = Some faulted;
  unsynced = Some (publishing s publication (Some (length s.publications)));
  misses = λ _. false;
}

-- by the visible unit of the name
abbrev pub publish_over : State → ℕ → List ℕ → UnitValue → Option StoredUnit → Row
publish_over s lane name unit None = change (dropped s lane) (dropped s lane) (model.Put name (stored_unit s unit))
publish_over s lane name unit (Some other) =
    if bytes_eq other.unit.output unit.output then change (dropped s lane) (dropped s lane) (model.Put name (stored_unit s unit))
    else sure Clash (dropped s lane)

abbrev pub publish_unit : State → ℕ → List ℕ → UnitValue → Row
publish_unit s lane name unit = publish_over s lane name unit (unit_named name (visible s))

-- what the lane has staged
abbrev pub staged_by : State → ℕ → Option UnitValue
staged_by s lane = option_and_then (λ l. l.staged) (lease_of s lane)

-- none where the lane has staged nothing
abbrev pub publish : (List ℕ → List ℕ) → State → ℕ → Option Row
publish name_of s lane = option_map (λ unit. publish_unit s lane (name_of unit.output) unit) (staged_by s lane)

-- the name of the unit that has the output path
abbrev pub name_with_output : List ℕ → Units → Option (List ℕ)
name_with_output output units = option_map (λ entry. entry.0) (find (λ entry. bytes_eq entry.1.unit.output output) units)

abbrev pub remove_named : State → Option (List ℕ) → Row
remove_named s None = sure NoUnit s
remove_named s (Some name) = change s s (model.Gone name)

abbrev pub remove : State → List ℕ → Row
remove s output = remove_named s (name_with_output output (visible s))

-- no import is open
abbrev pub unopened : State → State
unopened s = record s { import = None }

abbrev pub scan : State → ℕ → Row
scan s lane = record {
  plain = ended (At (length s.publications)) (record s { import = Some (record { lane = lane; mark = length s.publications }) });
  faulted = Some (unopened s);
  unsynced = None;
  misses = λ _. true;
}

-- a load for an import that fails closes it
abbrev pub load_failed : State → Purpose → State
load_failed s Import = unopened s
load_failed s Ask = s

abbrev pub load : State → List ℕ → Purpose → Row
load s name purpose = record { plain = ended Done s; faulted = Some (load_failed s purpose); unsynced = None; misses = bytes_eq name }

abbrev pub install_mark : State → ℕ → ℕ → Row
install_mark s lane mark = sure (At mark) (holding (record s { import = None; current = mark }) lane (Some mark))

-- none where the lane has no import open
abbrev pub install_import : State → ℕ → Option state.Import → Option Row
install_import s lane None = None
install_import s lane (Some open_import) = if open_import.lane == lane then Some (install_mark s lane open_import.mark) else None

abbrev pub install : State → ℕ → Option Row
install s lane = install_import s lane s.import

abbrev pub adopt : State → ℕ → Row
adopt s lane = sure (At s.current) (holding s lane (Some s.current))

abbrev pub release : State → ℕ → Row
release s lane = sure Done (holding s lane None)

-- by the loose records: the first of them goes
abbrev pub collect_first : State → List (List ℕ) → Stepped
collect_first s [] = ended Nothing (settled s)
collect_first s (name ∷ names) = ended (Removed name) (record (settled s) { records = remove_entry (is_at (text_cmp name)) s.records })

abbrev pub collected : State → Stepped
collected s = collect_first s (loose s)

abbrev pub collect : State → Row
collect s = record { plain = collected s; faulted = Some s; unsynced = None; misses = λ _. false }

-- ---- the step

-- all that a lane's call may do. None where a lane publishes with nothing staged, or installs with no import of its own
abbrev pub row : (List ℕ → List ℕ) → State → ℕ → Given → Option Row
row name_of s lane (Lease names) = Some (lease s lane names)
row name_of s lane (Put body) = Some (put s lane body)
row name_of s lane (Stage unit) = Some (stage s lane unit)
row name_of s lane Publish = publish name_of s lane
row name_of s lane (Remove output) = Some (remove s output)
row name_of s lane Scan = Some (scan s lane)
row name_of s lane (Load name purpose) = Some (load s name purpose)
row name_of s lane Install = install s lane
row name_of s lane Adopt = Some (adopt s lane)
row name_of s lane Release = Some (release s lane)
row name_of s lane Collect = Some (collect s)

-- one step, by its flag
abbrev pub step : (List ℕ → List ℕ) → State → ℕ → Given → Outcome → Option Stepped
step name_of s lane given flag = option_and_then (λ r. flagged r flag) (row name_of s lane given)
