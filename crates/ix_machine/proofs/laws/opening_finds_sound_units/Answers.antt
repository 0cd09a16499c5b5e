use Rattle.ix_machine.proofs.Judged.{judged_is_sound, sound_is_judged, opens_sound, units_rise}
use Rattle.ix_machine.proofs.RefusedUnits.{refusal_is_first, lists_all}
use Rattle.ix_machine.proofs.laws.opening_finds_sound_units.Goals as goal

pub returns-clause-sound : goal.returns-clause-sound
returns-clause-sound c = λ name_of records name bytes found files fits e. judged_is_sound name_of records name bytes found files.bytes fits e

pub returns-clause-found : goal.returns-clause-found
returns-clause-found c = sound_is_judged

pub returns-clause-begins : goal.returns-clause-begins
returns-clause-begins c = λ name_of units records. opens_sound name_of records units

pub returns-clause-rises : goal.returns-clause-rises
returns-clause-rises c = λ name_of units records. units_rise name_of records units

pub returns-clause-refused : goal.returns-clause-refused
returns-clause-refused c = λ name_of records name bytes fault files fits e. refusal_is_first name_of records name bytes fault files.bytes fits e

pub returns-clause-all : goal.returns-clause-all
returns-clause-all c = λ name_of units records. lists_all name_of records units
