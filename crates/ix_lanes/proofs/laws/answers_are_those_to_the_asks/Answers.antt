use Rattle.ix_lanes.proofs.Asked.{answers_fit}
use Rattle.ix_lanes.proofs.laws.answers_are_those_to_the_asks.Goals as goal

pub returns : goal.returns
returns c seen tasks events = answers_fit seen tasks events
