-- How a step ended, by its answer, and what is kept of the state then.
use Rattle.std.specs.Prelude.{◌≡◌, ℕ, Bool, true, false, List, ◌++◌, ◌∷◌, [], Option, Some, None, IsSome, Result, Ok, Err}
use Rattle.ix_dir.specs.declared.area.Area.TheVariants.{Records}
use Rattle.ix_dir.specs.declared.moves.Move.{Move}
use Rattle.ix_dir.specs.Calls.{removed}
use Rattle.ix_unit.specs.declared.value.UnitValue.{UnitValue}
use Rattle.ix_shelf.specs.declared.shelf.Put.{Put}
use Rattle.ix_shelf.specs.declared.shelf.Put.TheVariants as puts
use Rattle.ix_shelf.specs.declared.fault.PutError.{PutError}
use Rattle.ix_shelf.specs.declared.fault.PutError.TheVariants as put
use Rattle.ix_cabinet.specs.declared.change.Settled.{Settled}
use Rattle.ix_cabinet.specs.declared.fault.StageError.{StageError}
use Rattle.ix_cabinet.specs.declared.fault.StageError.TheVariants as stage
use Rattle.ix_cabinet.specs.Changes.{is_unsynced}
use Rattle.ix_machine.specs.declared.event.Call.{Call}
use Rattle.ix_machine.specs.declared.event.Event.{Event}
use Rattle.ix_machine.specs.declared.event.Outcome.{Outcome}
use Rattle.ix_machine.specs.declared.event.Outcome.TheVariants.{Done, Written, Shared, Clash, Synced, Unsynced, NoUnit, At, Removed, Nothing, Fault, Lost, Damaged}
use Rattle.ix_ledger.specs.Books.{Books, event}
use Rattle.ix_ledger.specs.Effects.{Changed, noted, dropped, staging, changed, settled}
use Rattle.ix_ledger.specs.Kept.{Kept, staged_in}
use Rattle.ix_stops.specs.Stands.{outcome_of}
use Rattle.ix_library.specs.declared.fault.PublishError.{PublishError}
use Rattle.ix_library.specs.declared.fault.PublishError.TheVariants as publish
use Rattle.ix_library.specs.declared.fault.RemoveError.{RemoveError}
use Rattle.ix_library.specs.declared.fault.RemoveError.TheVariants as remove
use Rattle.ix_library.specs.declared.fault.Collected.{Collected}
use Rattle.ix_library.specs.declared.fault.Collected.TheVariants as collects
use Rattle.ix_library.specs.declared.fault.CollectError.{CollectError}
use Rattle.ix_library.specs.declared.fault.CollectError.TheVariants as collect

-- ---- events

-- the flag of a step that ended so: what the directory did to it, or Done where it did nothing
abbrev pub flag_for : Outcome → Outcome
flag_for Done = Done
flag_for Written = Done
flag_for Shared = Done
flag_for Clash = Done
flag_for Synced = Done
flag_for Unsynced = Unsynced
flag_for NoUnit = Done
flag_for (At mark) = Done
flag_for (Removed name) = Done
flag_for Nothing = Done
flag_for Fault = Fault
flag_for (Lost name) = Lost name
flag_for (Damaged name) = Damaged name

-- one event more where the step ended, and none where memory was wanting
abbrev pub with_event : List Event → ℕ → Call → Option Outcome → List Event
with_event events lane call None = events
with_event events lane call (Some how) = events ++ event lane call how ∷ []

-- the event takes the room that there was for it
abbrev pub room_after : Bool → Option Outcome → Bool
room_after has_room None = has_room
room_after has_room (Some how) = false

-- what a step leaves of the books
abbrev pub ended_with : Books → Kept → ℕ → Call → Option Outcome → Books
ended_with books kept lane call how = record { kept = kept; events = with_event books.events lane call how; has_room = room_after books.has_room how }

-- ---- put

abbrev pub put_ending : Result Put PutError → Option Outcome
put_ending (Ok puts.Written) = Some Written
put_ending (Ok puts.Shared) = Some Shared
put_ending (Err put.Fault) = Some Fault
put_ending (Err (put.Clash name)) = Some Clash
put_ending (Err put.Memory) = None

-- a put that is made notes its name, and one that is refused or fails drops the lease
abbrev pub put_leaves : Result Put PutError → Kept → ℕ → List ℕ → Kept
put_leaves (Ok made) kept lane name = noted kept lane name
put_leaves (Err put.Fault) kept lane name = dropped kept lane
put_leaves (Err (put.Clash other)) kept lane name = dropped kept lane
put_leaves (Err put.Memory) kept lane name = kept

-- ---- stage

abbrev pub stage_ending : {U : Type 0} → Result U StageError → Option Outcome
stage_ending (Ok made) = Some Done
stage_ending (Err stage.Fault) = Some Fault
stage_ending (Err stage.Memory) = None

-- a stage keeps the unit for its lane, and one that fails drops the lease
abbrev pub stage_leaves : {U : Type 0} → Result U StageError → Kept → ℕ → UnitValue → Kept
stage_leaves (Ok made) kept lane unit = staging kept lane unit
stage_leaves (Err stage.Fault) kept lane unit = dropped kept lane
stage_leaves (Err stage.Memory) kept lane unit = kept

-- ---- publish

-- the name of a unit's output path
abbrev pub name_of_unit : (List ℕ → List ℕ) → Option UnitValue → List ℕ
name_of_unit name_of None = []
name_of_unit name_of (Some unit) = name_of unit.output

-- the name under which the lane publishes what it has staged
abbrev pub publish_name : (List ℕ → List ℕ) → Kept → ℕ → List ℕ
publish_name name_of kept lane = name_of_unit name_of (staged_in kept lane)

-- the answer of a publish whose change was to be made
abbrev pub publish_answer : {E : Type 0} → Result Settled E → Result Settled PublishError
publish_answer (Ok settled) = Ok settled
publish_answer (Err e) = Err publish.Fault

abbrev pub publish_ending : Result Settled PublishError → Option Outcome
publish_ending (Ok settled) = Some (outcome_of settled)
publish_ending (Err publish.Fault) = Some Fault
publish_ending (Err (publish.Clash name)) = Some Clash
publish_ending (Err publish.Memory) = None

abbrev pub changed_over : Kept → Option Changed → Bool → Kept
changed_over kept None unsynced = kept
changed_over kept (Some change) unsynced = changed kept change unsynced

-- the change that there is is made, and the lease is dropped in every case but one
abbrev pub publish_leaves : Result Settled PublishError → Kept → ℕ → Option Changed → Kept
publish_leaves (Ok settled) kept lane change = changed_over (dropped kept lane) change (is_unsynced settled)
publish_leaves (Err publish.Fault) kept lane change = dropped kept lane
publish_leaves (Err (publish.Clash other)) kept lane change = dropped kept lane
publish_leaves (Err publish.Memory) kept lane change = kept

-- a clash comes exactly where the visible unit of the name has another output path, so that there is no change to make
abbrev pub IsPublishAnswer : Result Settled PublishError → List ℕ → Option Changed → Type 0
IsPublishAnswer (Ok settled) name change = IsSome change
IsPublishAnswer (Err publish.Fault) name change = IsSome change
IsPublishAnswer (Err (publish.Clash other)) name change = (other ≡ name) × (change ≡ None)
IsPublishAnswer (Err publish.Memory) name change = Unit {0}

-- the directory failed, or the sync behind the change did
abbrev pub publish_failed : Result Settled PublishError → Bool
publish_failed (Ok settled) = is_unsynced settled
publish_failed (Err publish.Fault) = true
publish_failed (Err (publish.Clash name)) = false
publish_failed (Err publish.Memory) = false

-- ---- remove

-- the answer of a removal whose change was to be made
abbrev pub remove_answer : {E : Type 0} → Result Settled E → Result Settled RemoveError
remove_answer (Ok settled) = Ok settled
remove_answer (Err e) = Err remove.Fault

abbrev pub remove_ending : Result Settled RemoveError → Option Outcome
remove_ending (Ok settled) = Some (outcome_of settled)
remove_ending (Err remove.Fault) = Some Fault
remove_ending (Err (remove.NoUnit name)) = Some NoUnit
remove_ending (Err remove.Memory) = None

-- the change that there is is made, and else nothing
abbrev pub remove_leaves : Result Settled RemoveError → Kept → Option Changed → Kept
remove_leaves (Ok settled) kept change = changed_over kept change (is_unsynced settled)
remove_leaves (Err e) kept change = kept

-- there is no unit exactly where no visible unit of the name has the output path, so that there is no change to make
abbrev pub IsRemoveAnswer : Result Settled RemoveError → List ℕ → Option Changed → Type 0
IsRemoveAnswer (Ok settled) name change = IsSome change
IsRemoveAnswer (Err remove.Fault) name change = IsSome change
IsRemoveAnswer (Err (remove.NoUnit other)) name change = (other ≡ name) × (change ≡ None)
IsRemoveAnswer (Err remove.Memory) name change = Unit {0}

abbrev pub remove_failed : Result Settled RemoveError → Bool
remove_failed (Ok settled) = is_unsynced settled
remove_failed (Err remove.Fault) = true
remove_failed (Err (remove.NoUnit name)) = false
remove_failed (Err remove.Memory) = false

-- ---- collect

-- the answer of a collect that was to end so
abbrev pub collect_answer : {U E : Type 0} → Collected → Result U E → Result Collected CollectError
collect_answer wanted (Ok made) = Ok wanted
collect_answer wanted (Err e) = Err collect.Fault

abbrev pub collect_ending : Result Collected CollectError → Option Outcome
collect_ending (Ok collects.Nothing) = Some Nothing
collect_ending (Ok (collects.Removed name)) = Some (Removed name)
collect_ending (Err collect.Fault) = Some Fault
collect_ending (Err collect.Memory) = None

-- no change pends behind a collect that is made
abbrev pub collect_leaves : Result Collected CollectError → Kept → Kept
collect_leaves (Ok made) kept = settled kept
collect_leaves (Err e) kept = kept

-- the moves of a collect, behind its sync
abbrev pub collected_by : Collected → Option (List Move) → Option (List Move)
collected_by collects.Nothing moves = moves
collected_by (collects.Removed name) moves = removed moves Records name

abbrev pub collect_failed : Result Collected CollectError → Bool
collect_failed (Ok made) = false
collect_failed (Err collect.Fault) = true
collect_failed (Err collect.Memory) = false
