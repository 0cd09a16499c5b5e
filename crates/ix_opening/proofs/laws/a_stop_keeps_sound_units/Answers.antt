use Rattle.ix_opening.proofs.MovesOfOpening.{DirLaws}
use Rattle.ix_opening.proofs.OpeningLeaves.{front_standing, front_images}
use Rattle.ix_opening.proofs.laws.a_stop_keeps_sound_units.Goals as goal

pub returns-clause-standing : goal.returns-clause-standing
returns-clause-standing c name_of before now front =
    let laws : DirLaws = record { area_one = c.area_takes_a_step.ensures; values_one = c.values_take_a_step.ensures; last = c.last_value_stands.ensures; image = c.standing_is_image.ensures } in
    front_standing laws name_of before now front

pub returns-clause-images : goal.returns-clause-images
returns-clause-images c name_of before now moment image front within there left =
    let laws : DirLaws = record { area_one = c.area_takes_a_step.ensures; values_one = c.values_take_a_step.ensures; last = c.last_value_stands.ensures; image = c.standing_is_image.ensures } in
    front_images laws name_of before now moment image front within there left
