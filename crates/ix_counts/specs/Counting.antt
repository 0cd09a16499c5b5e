-- What events say of a directory, and its counts beside them: how often it failed, found a record file and made a list.
use Rattle.std.specs.Prelude.{◌≡◌, ◌⊎◌, ℕ, ◌+◌, ◌-◌, ◌^◌, ◌≤◌, min, Bool, true, false, List, ◌++◌, length, filter, Option, Some, None}
use Rattle.ix_types.specs.Count.{counted}
use Rattle.ix_dir.specs.State.{DirState}
use Rattle.ix_machine.specs.declared.event.Call.{Call}
use Rattle.ix_machine.specs.declared.event.Call.TheVariants.{Lease, Put, Stage, Publish, Remove, Scan, Load, Install, Adopt, Release, Collect}
use Rattle.ix_machine.specs.declared.event.Event.{Event}
use Rattle.ix_machine.specs.declared.event.Outcome.{Outcome}
use Rattle.ix_machine.specs.declared.event.Outcome.TheVariants.{Done, Written, Shared, Clash, Synced, Unsynced, NoUnit, At, Removed, Nothing, Fault, Lost, Damaged}
use Rattle.ix_machine.specs.Outcomes.{is_done}

-- ---- what an event says

-- whether the outcome says fault or unsynced
abbrev pub is_failure : Outcome → Bool
is_failure Done = false
is_failure Written = false
is_failure Shared = false
is_failure Clash = false
is_failure Synced = false
is_failure Unsynced = true
is_failure NoUnit = false
is_failure (At mark) = false
is_failure (Removed name) = false
is_failure Nothing = false
is_failure Fault = true
is_failure (Lost name) = false
is_failure (Damaged name) = false

-- whether it says that the step ended at a mark
abbrev pub has_mark : Outcome → Bool
has_mark Done = false
has_mark Written = false
has_mark Shared = false
has_mark Clash = false
has_mark Synced = false
has_mark Unsynced = false
has_mark NoUnit = false
has_mark (At mark) = true
has_mark (Removed name) = false
has_mark Nothing = false
has_mark Fault = false
has_mark (Lost name) = false
has_mark (Damaged name) = false

-- whether it is a load that says ok
abbrev pub is_loaded : Call → Outcome → Bool
is_loaded (Lease names) outcome = false
is_loaded (Put name) outcome = false
is_loaded (Stage unit) outcome = false
is_loaded (Publish unit) outcome = false
is_loaded (Remove unit) outcome = false
is_loaded Scan outcome = false
is_loaded (Load name) outcome = is_done outcome
is_loaded Install outcome = false
is_loaded Adopt outcome = false
is_loaded Release outcome = false
is_loaded Collect outcome = false

-- whether it is a scan that says ok
abbrev pub is_scanned : Call → Outcome → Bool
is_scanned (Lease names) outcome = false
is_scanned (Put name) outcome = false
is_scanned (Stage unit) outcome = false
is_scanned (Publish unit) outcome = false
is_scanned (Remove unit) outcome = false
is_scanned Scan outcome = has_mark outcome
is_scanned (Load name) outcome = false
is_scanned Install outcome = false
is_scanned Adopt outcome = false
is_scanned Release outcome = false
is_scanned Collect outcome = false

-- the same of a call that was to be an event: none where memory was wanting
abbrev pub says_loaded : Call → Option Outcome → Bool
says_loaded call None = false
says_loaded call (Some outcome) = is_loaded call outcome

abbrev pub says_scanned : Call → Option Outcome → Bool
says_scanned call None = false
says_scanned call (Some outcome) = is_scanned call outcome

-- how many of the events say fault or unsynced
abbrev pub failures : List Event → ℕ
failures events = length (filter (λ event. is_failure event.outcome) events)

-- how many of them are loads that say ok
abbrev pub loads : List Event → ℕ
loads events = length (filter (λ event. is_loaded event.call event.outcome) events)

-- how many of them are scans that say ok
abbrev pub scans : List Event → ℕ
scans events = length (filter (λ event. is_scanned event.call event.outcome) events)

-- ---- what a directory counts

pub record Counts : Type 0 where
  -- how often the outside has failed
  pub faults : ℕ
  -- how often a read found a record file
  pub finds : ℕ
  -- how often a list was answered
  pub listings : ℕ

abbrev pub counts_of : DirState → Counts
counts_of d = record { faults = d.faults; finds = d.finds; listings = d.listings }

-- from one count to another it rose by so many at least, or stands at the greatest u64
abbrev pub RoseBy : ℕ → ℕ → ℕ → Type 0
RoseBy times before after = min (before + times) (2 ^ 64 - 1) ≤ after

-- it rose by one, where that is asked; and else it stayed or rose by one
abbrev pub RoseWhere : Bool → ℕ → ℕ → Type 0
RoseWhere true before after = after ≡ counted before
RoseWhere false before after = (after ≡ before) ⊎ (after ≡ counted before)

-- events were added, and each count rose by at least as many as say so: that of faults as those that say fault or unsynced, that of finds as the loads that say ok,
-- and that of lists as the scans that say ok
pub record AreCounted (earlier : List Event) (before : Counts) (events : List Event) (after : Counts) : Type 0 where
  pub more : List Event
  pub added : events ≡ earlier ++ more
  pub rose : RoseBy (failures more) before.faults after.faults
  pub found : RoseBy (loads more) before.finds after.finds
  pub listed : RoseBy (scans more) before.listings after.listings
