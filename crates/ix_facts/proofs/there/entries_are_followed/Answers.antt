use Rattle.std.proofs.Common.{refl}
use Rattle.ix_facts.proofs.Followed.{calls_marks, entry_marks, log_grows, one_more_there, slots_there, stay_there}
use Rattle.ix_facts.proofs.there.entries_are_followed.Goals as goal

pub returns-clause-stays : goal.returns-clause-stays
returns-clause-stays c name_of s first last calls there run = stay_there name_of calls s first last there run

pub returns-clause-marks : goal.returns-clause-marks
returns-clause-marks c name_of s lane given how marks = entry_marks name_of s lane given how marks

pub returns-clause-marks_stay : goal.returns-clause-marks_stay
returns-clause-marks_stay c name_of s calls marks = calls_marks name_of s calls marks

pub returns-clause-begins : goal.returns-clause-begins
returns-clause-begins c name_of s first = refl

pub returns-clause-goes_on : goal.returns-clause-goes_on
returns-clause-goes_on c name_of s first between last calls called run is logged = one_more_there name_of calls s first between last called run (record { there = is; logged = logged })

pub returns-clause-stands : goal.returns-clause-stands
returns-clause-stands c name_of s kept shelf known dir stands = record { keeps = stands.keeps.is; slots = slots_there kept dir stands.staged }

pub returns-clause-there : goal.returns-clause-there
returns-clause-there c s kept dir there lane staged = there.slots lane staged

pub returns-clause-opens : goal.returns-clause-opens
returns-clause-opens c name_of moves lanes refused kept dir begins slots = (record { keeps = begins.keeps.is; slots = slots }, begins.keeps.sound.marks)

pub returns-clause-logged : goal.returns-clause-logged
returns-clause-logged c name_of s first last calls there run = log_grows name_of calls s first last there run

pub returns-clause-keeps : goal.returns-clause-keeps
returns-clause-keeps c s kept dir there = there.keeps
