use Rattle.std.proofs.Common.{List, ◌++◌, length, ap, sym}
use Rattle.std.proofs.Math.Seq.{take-length}
use Rattle.ix_dir.specs.declared.area.Area.TheVariants.{Units, Records}
use Rattle.ix_dir.specs.declared.moves.Move.{Move}
use Rattle.ix_dir.specs.Crash.{standing}
use Rattle.ix_opening.specs.AfterOpening.{opening_moves}
use Rattle.ix_opening.specs.Found.{opening_of}
use Rattle.ix_stops.proofs.steps.given_opening.Goals as goal

pub returns : goal.returns
returns c name_of moves =
    let now : List Move = moves ++ opening_moves name_of moves in
    let settled = c.opening_leaves_sound_files.ensures.settled name_of moves in
    record {
      units = c.a_second_opening_finds_the_same.ensures.units name_of moves;
      refused = c.a_second_opening_finds_the_same.ensures.refused name_of moves;
      records = c.opening_leaves_sound_files.ensures.records name_of moves now (record { count = length (opening_moves name_of moves); made = ap (λ ms. moves ++ ms) (sym (take-length (opening_moves name_of moves))) });
      settled_units = c.a_pick_leaves_these.ensures.settled now Units settled;
      settled_records = c.a_pick_leaves_these.ensures.settled now Records settled;
      visible_ones = λ lanes. c.a_run_begins_with_what_is_found.ensures.units (opening_of name_of (standing moves)) lanes (c.found_names_rise.ensures.units name_of (standing moves));
    }
