use Rattle.ix_looks.proofs.Needed.{needed_value, alone, one_value}
use Rattle.ix_looks.proofs.laws.records_that_stand_have_one_value.Goals as goal

pub returns-clause-found : goal.returns-clause-found
returns-clause-found c name_of records units name stand needed = let there = needed_value name_of records name units stand needed in (there.value, there.has_value)

pub returns-clause-alone : goal.returns-clause-alone
returns-clause-alone c name_of records units name value other stand is also = alone name_of records c.given.ensures units name value other stand is also

pub returns-clause-one : goal.returns-clause-one
returns-clause-one c name_of records before after stand also = one_value name_of records c.given.ensures before after stand also
