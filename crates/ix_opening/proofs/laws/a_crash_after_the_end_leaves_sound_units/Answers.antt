use Rattle.std.proofs.Common.{◌≡◌, List, ◌++◌, ap, ◌∙◌}
use Rattle.ix_dir.specs.declared.moves.Move.{Move}
use Rattle.ix_opening.specs.AfterOpening.{opening_moves}
use Rattle.ix_opening.proofs.AtTheEnds.{same_found}
use Rattle.ix_opening.proofs.laws.a_crash_after_the_end_leaves_sound_units.Goals as goal

pub returns-clause-units : goal.returns-clause-units
returns-clause-units c name_of moves image left =
    let after : List Move = moves ++ opening_moves name_of moves in
    ap (λ o. o.units)
    (same_found name_of after image (λ area q. c.settled_area_leaves_what_stands.ensures after area image q (c.opening_leaves_sound_files.ensures.settled name_of moves area) left))
    ∙ c.a_second_opening_finds_the_same.ensures.units name_of moves

pub returns-clause-refused : goal.returns-clause-refused
returns-clause-refused c name_of moves image left =
    let after : List Move = moves ++ opening_moves name_of moves in
    ap (λ o. o.refused)
    (same_found name_of after image (λ area q. c.settled_area_leaves_what_stands.ensures after area image q (c.opening_leaves_sound_files.ensures.settled name_of moves area) left))
    ∙ c.a_second_opening_finds_the_same.ensures.refused name_of moves
