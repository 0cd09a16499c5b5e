use Rattle.ix_facts.proofs.Memory.{kept_marks, kept_needs}
use Rattle.ix_facts.proofs.Stamped.{import_known, known_files, stamps_at}
use Rattle.ix_facts.proofs.Told.{stamps_known}
use Rattle.ix_facts.proofs.facts.what_stands_in_memory.Goals as goal

pub returns-clause-need_lists : goal.returns-clause-need_lists
returns-clause-need_lists c name_of s kept shelf known dir stands = kept_needs name_of s kept stands.keeps c.given_of_guard.ensures

pub returns-clause-marks_in_order : goal.returns-clause-marks_in_order
returns-clause-marks_in_order c name_of s kept shelf known dir stands = kept_marks name_of s kept stands.keeps

pub returns-clause-known_stamps : goal.returns-clause-known_stamps
returns-clause-known_stamps c name_of s kept shelf known dir moves stands told = known_files c.given_of_disk.ensures name_of s known moves (stamps_known name_of s kept shelf known dir moves stands told)

pub returns-clause-import_stamps : goal.returns-clause-import_stamps
returns-clause-import_stamps c name_of s kept shelf known dir moves stands told = import_known c.given_of_disk.ensures name_of s known moves (stamps_known name_of s kept shelf known dir moves stands told)

pub returns-clause-stamped_then : goal.returns-clause-stamped_then
returns-clause-stamped_then c name_of s kept shelf known dir moves stands told mark stamps of =
    let are = stamps_at name_of s known moves (stamps_known name_of s kept shelf known dir moves stands told) mark stamps of in (are.moment, are.within, are.stamped, are.spelled)
