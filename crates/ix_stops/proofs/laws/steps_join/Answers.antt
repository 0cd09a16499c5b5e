use Rattle.ix_stops.proofs.Joined.{joined}
use Rattle.ix_stops.proofs.laws.steps_join.Goals as goal

pub returns : goal.returns
returns c name_of first second more before between now early late one two = joined c.given.ensures name_of first second more before between now early late one two
