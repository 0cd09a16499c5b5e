use Rattle.ix_levels.proofs.Ended.{edge_set, one_edge_set}
use Rattle.ix_levels.proofs.laws.edges_have_one_sorted_set.Goals as goal

pub returns-clause-set : goal.returns-clause-set
returns-clause-set c = edge_set

pub returns-clause-one : goal.returns-clause-one
returns-clause-one c = one_edge_set
