use Rattle.ix_dir.proofs.ImagesAfterAChange.{renamed_images, removed_images}
use Rattle.ix_dir.proofs.laws.one_change_more.Goals as goal

pub returns-clause-renamed : goal.returns-clause-renamed
returns-clause-renamed c moves area name bytes stamp contents settled = renamed_images moves area name contents settled bytes stamp

pub returns-clause-removed : goal.returns-clause-removed
returns-clause-removed c moves area name contents settled = removed_images moves area name contents settled
