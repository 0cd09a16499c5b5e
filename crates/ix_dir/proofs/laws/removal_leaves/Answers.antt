use Rattle.ix_dir.proofs.WhatAChangeLeaves.{without}
use Rattle.ix_dir.proofs.laws.removal_leaves.Goals as goal

pub returns : goal.returns
returns c moves area name = without moves area name
