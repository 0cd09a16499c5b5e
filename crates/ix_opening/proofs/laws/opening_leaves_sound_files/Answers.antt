use Rattle.ix_opening.proofs.MovesOfOpening.{DirLaws}
use Rattle.ix_opening.proofs.OpeningLeaves.{sound_files_left, front_records, all_settled}
use Rattle.ix_opening.proofs.laws.opening_leaves_sound_files.Goals as goal

pub returns-clause-units : goal.returns-clause-units
returns-clause-units c name_of moves name =
    let laws : DirLaws = record { area_one = c.area_takes_a_step.ensures; values_one = c.values_take_a_step.ensures; last = c.last_value_stands.ensures; image = c.standing_is_image.ensures } in
    sound_files_left laws name_of moves name

pub returns-clause-records : goal.returns-clause-records
returns-clause-records c name_of before now front =
    let laws : DirLaws = record { area_one = c.area_takes_a_step.ensures; values_one = c.values_take_a_step.ensures; last = c.last_value_stands.ensures; image = c.standing_is_image.ensures } in
    front_records laws name_of before now front

pub returns-clause-settled : goal.returns-clause-settled
returns-clause-settled c name_of moves =
    let laws : DirLaws = record { area_one = c.area_takes_a_step.ensures; values_one = c.values_take_a_step.ensures; last = c.last_value_stands.ensures; image = c.standing_is_image.ensures } in
    all_settled laws name_of moves
