use Rattle.ix_dir.proofs.WhatAChangeLeaves.{renamed}
use Rattle.ix_dir.proofs.laws.rename_leaves.Goals as goal

pub returns : goal.returns
returns c moves area name bytes stamp = renamed moves area name bytes stamp
