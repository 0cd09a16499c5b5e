use Rattle.ix_cabinet.proofs.AreaHoldsUnits.{none_held}
use Rattle.ix_cabinet.proofs.laws.an_empty_directory_holds_units.Goals as goal

pub returns : goal.returns
returns c name_of = none_held name_of
