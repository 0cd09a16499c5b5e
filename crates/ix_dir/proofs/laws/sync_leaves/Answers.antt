use Rattle.ix_dir.proofs.WhatAChangeLeaves.{synced, settled as settled_after}
use Rattle.ix_dir.proofs.laws.sync_leaves.Goals as goal

pub returns-clause-areas : goal.returns-clause-areas
returns-clause-areas c moves area a = synced moves area a

pub returns-clause-settled : goal.returns-clause-settled
returns-clause-settled c moves area = settled_after moves area
