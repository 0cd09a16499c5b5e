use Rattle.ix_levels.proofs.Further.{stays, stays-loaded}
use Rattle.ix_levels.proofs.laws.walks_stay_open.Goals as goal

pub returns-clause-level : goal.returns-clause-level
returns-clause-level c = stays

pub returns-clause-loads : goal.returns-clause-loads
returns-clause-loads c = stays-loaded
