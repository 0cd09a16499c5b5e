use Rattle.ix_dir.proofs.StampsApart.{same_file}
use Rattle.ix_dir.proofs.laws.equal_stamps_mean_the_same_file.Goals as goal

pub returns : goal.returns
returns c before now area name old new adds apart was is stamps = same_file before now area name old new adds apart was is stamps
