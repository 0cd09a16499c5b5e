use Rattle.ix_looks.proofs.Led.{held_units}
use Rattle.ix_looks.proofs.Needed.{held_whole}
use Rattle.ix_looks.proofs.laws.what_is_held_may_be_looked_at.Goals as goal

pub returns-clause-units : goal.returns-clause-units
returns-clause-units c name_of s shelf moves holds = held_units c.given.ensures name_of s shelf moves holds

pub returns-clause-needed : goal.returns-clause-needed
returns-clause-needed c name_of s shelf moves units name holds stand needed = held_whole c.given.ensures name_of s shelf units name stand needed moves holds
