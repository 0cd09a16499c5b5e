use Rattle.ix_levels.proofs.Further.{ends}
use Rattle.ix_levels.proofs.laws.walks_end_with_the_answer.Goals as goal

pub returns : goal.returns
returns c = ends
