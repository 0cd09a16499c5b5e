use Rattle.ix_dir.proofs.StampsGiven.{standing_given}
use Rattle.ix_dir.proofs.laws.standing_stamp_was_given.Goals as goal

pub returns : goal.returns
returns c moves area name file is = standing_given moves area name file is
