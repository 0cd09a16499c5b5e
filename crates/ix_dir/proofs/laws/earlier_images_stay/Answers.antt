use Rattle.ix_dir.proofs.WhatAChangeLeaves.{images_stay}
use Rattle.ix_dir.proofs.laws.earlier_images_stay.Goals as goal

pub returns : goal.returns
returns c before now moment image adds within = images_stay before now moment image adds within
