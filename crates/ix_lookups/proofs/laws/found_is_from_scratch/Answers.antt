use Rattle.ix_lookups.proofs.ByName.{unit-those}
use Rattle.ix_lookups.proofs.laws.found_is_from_scratch.Goals as goal

pub returns-clause-unit : goal.returns-clause-unit
returns-clause-unit c units name = unit-those units name
