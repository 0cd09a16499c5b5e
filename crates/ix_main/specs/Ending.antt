-- How a call ends, and why.
use Rattle.std.specs.Prelude.{◌≡◌, ◌⊎◌, ℕ, Bool, true, false, List, ◌++◌, codes}
use Rattle.std.specs.Fmt.{decimal}
use Rattle.ix_plan.specs.declared.refusal.ScriptRefusal.{ScriptRefusal}
use Rattle.ix_plan.specs.Texts.{refusal_text}
use Rattle.ix_check.specs.declared.ending.Ending as check
use Rattle.ix_plain.specs.declared.ending.Ending as plain
use Rattle.ix_plain.specs.Ending.{max_input}
use Rattle.ix_main.specs.declared.ending.Ending.{Ending}
use Rattle.ix_main.specs.declared.ending.Ending.TheVariants.{Done, BadWords, BadScript, DirFault, ReadFault, WriteFault, Memory, TooLarge, OpenFault, StoreDamaged}

-- the exit status of each ending
abbrev pub status_of : Ending → ℕ
status_of Done = 0
status_of BadWords = 1
status_of (BadScript refusal) = 2
status_of DirFault = 3
status_of ReadFault = 4
status_of WriteFault = 5
status_of Memory = 6
status_of TooLarge = 7
status_of OpenFault = 8
status_of StoreDamaged = 9

-- the line that tells of an ending; of the first there is nothing to tell
abbrev pub line_of : Ending → List ℕ
line_of Done = codes "done"
line_of BadWords = codes "usage: ix FOLDER replay, live, check or gen N"
line_of (BadScript refusal) = codes "bad script: " ++ refusal_text refusal
line_of DirFault = codes "directory fault during the run"
line_of ReadFault = codes "input could not be read"
line_of WriteFault = codes "output could not be written"
line_of Memory = codes "out of memory"
line_of TooLarge = codes "input is larger than " ++ decimal max_input ++ codes " bytes"
line_of OpenFault = codes "the store could not be opened"
line_of StoreDamaged = codes "a file of the store was lost or damaged during the run"

-- the ending of a replay, as one of a call
abbrev pub of_replay : plain.Ending → Ending
of_replay plain.TheVariants.Done = Done
of_replay (plain.TheVariants.BadScript refusal) = BadScript refusal
of_replay plain.TheVariants.DirFault = DirFault
of_replay plain.TheVariants.WriteFault = WriteFault
of_replay plain.TheVariants.Memory = Memory
of_replay plain.TheVariants.TooLarge = TooLarge
of_replay plain.TheVariants.OpenFault = OpenFault
of_replay plain.TheVariants.StoreDamaged = StoreDamaged

-- the ending of a check, as one of a call
abbrev pub of_check : check.Ending → Ending
of_check check.TheVariants.Done = Done
of_check check.TheVariants.WriteFault = WriteFault
of_check check.TheVariants.Memory = Memory
of_check check.TheVariants.OpenFault = OpenFault

-- a read failed
abbrev pub is_read_fault : Ending → Bool
is_read_fault ReadFault = true
is_read_fault _ = false

-- a write failed
abbrev pub is_write_fault : Ending → Bool
is_write_fault WriteFault = true
is_write_fault _ = false

-- the directory failed while the store was opened
abbrev pub is_open_fault : Ending → Bool
is_open_fault OpenFault = true
is_open_fault _ = false

-- the output was written whole
abbrev pub is_whole : Ending → Bool
is_whole Done = true
is_whole BadWords = false
is_whole (BadScript refusal) = false
is_whole DirFault = true
is_whole ReadFault = false
is_whole WriteFault = false
is_whole Memory = false
is_whole TooLarge = false
is_whole OpenFault = false
is_whole StoreDamaged = true

-- the call ended before the store was opened, and not for want of memory
abbrev pub is_refused : Ending → Bool
is_refused Done = false
is_refused BadWords = true
is_refused (BadScript refusal) = true
is_refused DirFault = false
is_refused ReadFault = true
is_refused WriteFault = false
is_refused Memory = false
is_refused TooLarge = true
is_refused OpenFault = false
is_refused StoreDamaged = false

-- the call ended before there was anything to write, and not for want of memory
abbrev pub is_silent : Ending → Bool
is_silent OpenFault = true
is_silent ending = is_refused ending

-- the input was read to its end or past the limit
abbrev pub is_read_whole : Ending → Bool
is_read_whole Done = true
is_read_whole BadWords = false
is_read_whole (BadScript refusal) = true
is_read_whole DirFault = true
is_read_whole ReadFault = false
is_read_whole WriteFault = true
is_read_whole Memory = false
is_read_whole TooLarge = true
is_read_whole OpenFault = true
is_read_whole StoreDamaged = true

-- an ending that may come of what the input's bytes decide: their refusal and no other, or a failed read or want of memory; a script may end in each way else
abbrev pub MayEnd : plain.Ending → Ending → Type 0
MayEnd decided Done = decided ≡ plain.TheVariants.Done
MayEnd decided BadWords = ⊥
MayEnd decided (BadScript refusal) = decided ≡ plain.TheVariants.BadScript refusal
MayEnd decided DirFault = decided ≡ plain.TheVariants.Done
MayEnd decided ReadFault = Unit {0}
MayEnd decided WriteFault = decided ≡ plain.TheVariants.Done
MayEnd decided Memory = Unit {0}
MayEnd decided TooLarge = decided ≡ plain.TheVariants.TooLarge
MayEnd decided OpenFault = decided ≡ plain.TheVariants.Done
MayEnd decided StoreDamaged = decided ≡ plain.TheVariants.Done

-- an ending that a check may have
abbrev pub MayCheck : Ending → Type 0
MayCheck ending = (ending ≡ Done) ⊎ (ending ≡ WriteFault) ⊎ (ending ≡ Memory) ⊎ (ending ≡ OpenFault)

-- whether lanes ran to their end, in which case there is a transcript; with want of memory they may have
abbrev pub MayRun : Ending → Bool → Type 0
MayRun Done ran = ran ≡ true
MayRun BadWords ran = ran ≡ false
MayRun (BadScript refusal) ran = ran ≡ false
MayRun DirFault ran = ran ≡ true
MayRun ReadFault ran = ran ≡ false
MayRun WriteFault ran = ran ≡ true
MayRun Memory ran = Unit {0}
MayRun TooLarge ran = ran ≡ false
MayRun OpenFault ran = ran ≡ false
MayRun StoreDamaged ran = ran ≡ true
