-- How a check ends.
use Rattle.std.specs.Prelude.{ℕ, Bool, true, false}
use Rattle.ix_check.specs.declared.ending.Ending.{Ending}
use Rattle.ix_check.specs.declared.ending.Ending.TheVariants.{Done, WriteFault, Memory, OpenFault}

-- the exit status of each ending
abbrev pub status_of : Ending → ℕ
status_of Done = 0
status_of WriteFault = 5
status_of Memory = 6
status_of OpenFault = 8

-- a write failed
abbrev pub is_write_fault : Ending → Bool
is_write_fault Done = false
is_write_fault WriteFault = true
is_write_fault Memory = false
is_write_fault OpenFault = false

-- the directory failed
abbrev pub is_open_fault : Ending → Bool
is_open_fault Done = false
is_open_fault WriteFault = false
is_open_fault Memory = false
is_open_fault OpenFault = true
