use Rattle.ix_levels.proofs.Further.{opens}
use Rattle.ix_levels.proofs.laws.walks_open.Goals as goal

pub returns : goal.returns
returns c = opens c.look_ups_name_the_levels.ensures
