use Rattle.ix_answers.proofs.Joined.{batches-join}
use Rattle.ix_answers.proofs.laws.batches_join.Goals as goal

pub returns : goal.returns
returns c = batches-join
