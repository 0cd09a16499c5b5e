use Rattle.ix_replays.specs.Run.{fresh, lanes_of}
use Rattle.ix_replays.proofs.Whole.{lanes_shown, flags_shown}
use Rattle.ix_replays.proofs.laws.runs_show_their_order_and_flags.Goals as goal

pub returns-clause-order : goal.returns-clause-order
returns-clause-order c name_of script opening order flags run e = lanes_shown name_of (lanes_of name_of script) order flags (fresh name_of script opening) run e

pub returns-clause-flags : goal.returns-clause-flags
returns-clause-flags c name_of script opening order flags run e = flags_shown name_of (lanes_of name_of script) order flags (fresh name_of script opening) run e
