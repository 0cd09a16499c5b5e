use Rattle.ix_replays.specs.Run.{fresh, lanes_of}
use Rattle.ix_replays.proofs.Whole.{each_ended, one_replay}
use Rattle.ix_replays.proofs.laws.runs_leave_no_call.Goals as goal

pub returns-clause-ended : goal.returns-clause-ended
returns-clause-ended c name_of script opening order flags run lane e within =
    each_ended name_of (lanes_of name_of script) order flags (fresh name_of script opening) run lane e within

pub returns-clause-one : goal.returns-clause-one
returns-clause-one c name_of script opening first second a b same = one_replay name_of script opening first second a b same
