-- How a replay ends, and why.
use Rattle.std.specs.Prelude.{◌≡◌, ℕ, ◌-◌, ◌^◌, ◌<◌, Bool, true, false, nat_lt, if◌then◌else◌, List, length, Result, Ok, Err}
use Rattle.std.specs.List.{list_any}
use Rattle.ix_machine.specs.declared.event.Event.{Event}
use Rattle.ix_plan.specs.declared.plan.Script.{Script}
use Rattle.ix_plan.specs.declared.refusal.ScriptRefusal.{ScriptRefusal}
use Rattle.ix_plan.specs.Reading.{script_of}
use Rattle.ix_turns.specs.Ended.{is_missed}
use Rattle.ix_counts.specs.Counting.{is_failure}
use Rattle.ix_plain.specs.declared.ending.Ending.{Ending}
use Rattle.ix_plain.specs.declared.ending.Ending.TheVariants.{Done, BadScript, DirFault, WriteFault, Memory, TooLarge, OpenFault, StoreDamaged}
use Rattle.ix_plain.specs.declared.replaying.TheConstants.{MAX_INPUT}

-- the exit status of each ending
abbrev pub status_of : Ending → ℕ
status_of Done = 0
status_of (BadScript refusal) = 2
status_of DirFault = 3
status_of WriteFault = 5
status_of Memory = 6
status_of TooLarge = 7
status_of OpenFault = 8
status_of StoreDamaged = 9

-- the text of a run was written whole
abbrev pub is_whole : Ending → Bool
is_whole Done = true
is_whole (BadScript refusal) = false
is_whole DirFault = true
is_whole WriteFault = false
is_whole Memory = false
is_whole TooLarge = false
is_whole OpenFault = false
is_whole StoreDamaged = true

-- a write failed
abbrev pub is_write_fault : Ending → Bool
is_write_fault Done = false
is_write_fault (BadScript refusal) = false
is_write_fault DirFault = false
is_write_fault WriteFault = true
is_write_fault Memory = false
is_write_fault TooLarge = false
is_write_fault OpenFault = false
is_write_fault StoreDamaged = false

-- the bytes are no script, or too many of them
abbrev pub is_refused : Ending → Bool
is_refused Done = false
is_refused (BadScript refusal) = true
is_refused DirFault = false
is_refused WriteFault = false
is_refused Memory = false
is_refused TooLarge = true
is_refused OpenFault = false
is_refused StoreDamaged = false

-- how a run of these events ends whose text was written whole: lost and damaged come before fault and unsynced
abbrev pub after_events : List Event → Ending
after_events events =
    if list_any (λ event. is_missed event.outcome) events then StoreDamaged
    else if list_any (λ event. is_failure event.outcome) events then DirFault
    else Done

-- the most bytes that a script has
abbrev pub max_input : ℕ
max_input = MAX_INPUT

abbrev accepted_or_refused : Result Script ScriptRefusal → Ending
accepted_or_refused (Ok script) = Done
accepted_or_refused (Err refusal) = BadScript refusal

-- what the bytes decide, Done where they are a script: the size is judged first, and then the script
abbrev pub ending_for : List ℕ → Ending
ending_for bytes = if nat_lt max_input (length bytes) then TooLarge else accepted_or_refused (script_of bytes)

-- an ending that may come of what the bytes decide: a refusal and no other, or want of memory; a script may end in each way else
abbrev pub MayEnd : Ending → Ending → Type 0
MayEnd decided Done = decided ≡ Done
MayEnd decided (BadScript refusal) = decided ≡ BadScript refusal
MayEnd decided DirFault = decided ≡ Done
MayEnd decided WriteFault = decided ≡ Done
MayEnd decided Memory = Unit {0}
MayEnd decided TooLarge = decided ≡ TooLarge
MayEnd decided OpenFault = decided ≡ Done
MayEnd decided StoreDamaged = decided ≡ Done

-- whether a run ended, in which case there is a transcript; with want of memory it may have
abbrev pub MayRun : Ending → Bool → Type 0
MayRun Done ran = ran ≡ true
MayRun (BadScript refusal) ran = ran ≡ false
MayRun DirFault ran = ran ≡ true
MayRun WriteFault ran = ran ≡ true
MayRun Memory ran = Unit {0}
MayRun TooLarge ran = ran ≡ false
MayRun OpenFault ran = ran ≡ false
MayRun StoreDamaged ran = ran ≡ true

-- a count stayed, and isn't at the greatest u64, at which it would stay anyway
pub record Stayed (before now : ℕ) : Type 0 where
  pub same : now ≡ before
  pub less : now < 2 ^ 64 - 1
