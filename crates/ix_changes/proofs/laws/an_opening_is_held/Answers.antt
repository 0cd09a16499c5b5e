use Rattle.std.proofs.Common.{◌++◌, refl}
use Rattle.ix_dir.specs.declared.area.Area.TheVariants.{Records}
use Rattle.ix_opening.specs.AfterOpening.{opening_moves}
use Rattle.ix_changes.proofs.laws.an_opening_is_held.Goals as goal

pub returns : goal.returns
returns c name_of moves lanes shelf holds sound = record {
  told = moves ++ opening_moves name_of moves;
  is = refl;
  stands = c.an_opening_begins.ensures.stands name_of moves lanes holds sound;
  knows = λ _. c.a_pick_leaves_these.ensures.settled (moves ++ opening_moves name_of moves) Records (c.opening_leaves_sound_files.ensures.settled name_of moves);
}
