use Rattle.ix_dir.proofs.ImagesAfterAChange.{synced_image, kept_image, synced_stand}
use Rattle.ix_dir.proofs.laws.sync_takes_images_away.Goals as goal

pub returns-clause-none_added : goal.returns-clause-none_added
returns-clause-none_added c moves area image left = synced_image moves area image left

pub returns-clause-stands : goal.returns-clause-stands
returns-clause-stands c moves area image name left = synced_stand moves area image name left

pub returns-clause-those_stay : goal.returns-clause-those_stay
returns-clause-those_stay c moves area image left stands = kept_image moves area image left stands
