use Rattle.ix_replays.specs.Run.{fresh, lanes_of}
use Rattle.ix_replays.proofs.Runs.{fresh_fits}
use Rattle.ix_replays.proofs.Whole.{end_fits, held_rises}
use Rattle.ix_replays.proofs.laws.held_marks_never_fall.Goals as goal

pub returns-clause-fits : goal.returns-clause-fits
returns-clause-fits c name_of script opening order flags run e =
    end_fits name_of (lanes_of name_of script) order flags (fresh name_of script opening) run (fresh_fits name_of script opening) e

pub returns-clause-rises : goal.returns-clause-rises
returns-clause-rises c name_of lanes order flags run end lane earlier later fits e before after = held_rises name_of lanes order flags run end lane earlier later fits e before after
