use Rattle.ix_one_lane.proofs.Runs.{published}
use Rattle.ix_one_lane.proofs.laws.builds_are_visible.Goals as goal

pub returns : goal.returns
returns c name_of steps turns opening order flags run longer lane event job behind naming accepted sound none comes e shows t d apart =
    published c.given.ensures name_of steps turns opening naming accepted sound order flags run longer lane event job behind none comes e shows t d apart
