use Rattle.ix_opening.proofs.AtTheEnds.{named, units_rise, refused_rise}
use Rattle.ix_opening.proofs.laws.found_names_rise.Goals as goal

pub returns-clause-named : goal.returns-clause-named
returns-clause-named c name_of image = named name_of image

pub returns-clause-units : goal.returns-clause-units
returns-clause-units c name_of image = units_rise name_of image

pub returns-clause-refused : goal.returns-clause-refused
returns-clause-refused c name_of image = refused_rise name_of image
