use Rattle.ix_host.proofs.StagedSlots.{staged_where_found}
use Rattle.ix_host.proofs.laws.a_folder_tells_no_moves.Goals as goal

pub returns-clause-staged : goal.returns-clause-staged
returns-clause-staged c d slot = staged_where_found slot d.staged
