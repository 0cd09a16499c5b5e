use Rattle.ix_dir.proofs.InOtherWords.{left_bytes_at, left_stamp_at}
use Rattle.ix_dir.proofs.laws.change_leaves.Goals as goal

pub returns-clause-bytes : goal.returns-clause-bytes
returns-clause-bytes c area name value before now a n left = left_bytes_at area name value before now left a n

pub returns-clause-stamps : goal.returns-clause-stamps
returns-clause-stamps c area name value before now a n left other = left_stamp_at area name value before now left a n other
