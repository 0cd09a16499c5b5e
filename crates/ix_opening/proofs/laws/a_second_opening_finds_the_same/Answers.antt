use Rattle.ix_opening.proofs.MovesOfOpening.{DirLaws}
use Rattle.ix_opening.proofs.OpeningLeaves.{second_units, second_refused}
use Rattle.ix_opening.proofs.laws.a_second_opening_finds_the_same.Goals as goal

pub returns-clause-units : goal.returns-clause-units
returns-clause-units c name_of moves =
    let laws : DirLaws = record { area_one = c.area_takes_a_step.ensures; values_one = c.values_take_a_step.ensures; last = c.last_value_stands.ensures; image = c.standing_is_image.ensures } in
    second_units laws name_of moves

pub returns-clause-refused : goal.returns-clause-refused
returns-clause-refused c name_of moves =
    let laws : DirLaws = record { area_one = c.area_takes_a_step.ensures; values_one = c.values_take_a_step.ensures; last = c.last_value_stands.ensures; image = c.standing_is_image.ensures } in
    second_refused laws name_of moves
