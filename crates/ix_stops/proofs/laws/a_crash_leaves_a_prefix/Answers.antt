use Rattle.ix_stops.proofs.Prefix.{prefix_left}
use Rattle.ix_stops.proofs.laws.a_crash_leaves_a_prefix.Goals as goal

pub returns : goal.returns
returns c name_of pending publications moves image disk left = prefix_left c.given.ensures name_of publications moves image left pending disk
