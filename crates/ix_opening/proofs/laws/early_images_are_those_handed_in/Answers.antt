use Rattle.ix_opening.proofs.AtTheEnds.{early_images}
use Rattle.ix_opening.proofs.laws.early_images_are_those_handed_in.Goals as goal

pub returns : goal.returns
returns c name_of before now moment image front from to left = early_images c.sync_takes_images_away.ensures.none_added before image name_of now moment front from to left
