use Rattle.ix_dir.proofs.ValuesAfterAChange.{settled_leaves}
use Rattle.ix_dir.proofs.laws.settled_area_leaves_what_stands.Goals as goal

pub returns : goal.returns
returns c moves area image name settled left = settled_leaves moves area image name settled left
