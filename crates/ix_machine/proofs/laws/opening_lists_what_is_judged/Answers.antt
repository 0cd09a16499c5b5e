use Rattle.ix_machine.proofs.Listing.{units_listed, refused_listed, refused_rise}
use Rattle.ix_machine.proofs.Judged.{kept_rise}
use Rattle.ix_machine.proofs.laws.opening_lists_what_is_judged.Goals as goal

pub returns-clause-units : goal.returns-clause-units
returns-clause-units c = λ name_of units records. units_listed name_of records units

pub returns-clause-refused : goal.returns-clause-refused
returns-clause-refused c = λ name_of units records. refused_listed name_of records units

pub returns-clause-units_rise : goal.returns-clause-units_rise
returns-clause-units_rise c = λ name_of units records. kept_rise name_of records units

pub returns-clause-refused_rise : goal.returns-clause-refused_rise
returns-clause-refused_rise c = λ name_of units records. refused_rise name_of records units
