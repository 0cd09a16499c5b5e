use Rattle.ix_stops.proofs.Beginning.{begins_on_disk, counts_from_opening}
use Rattle.ix_stops.proofs.steps.an_opening_begins.Goals as goal

pub returns-clause-stands : goal.returns-clause-stands
returns-clause-stands c name_of moves lanes holds sound = begins_on_disk c.given.ensures name_of moves (c.given_opening.ensures name_of moves) lanes holds sound

pub returns-clause-counts : goal.returns-clause-counts
returns-clause-counts c name_of moves lanes holds sound = counts_from_opening c.given.ensures name_of moves (c.given_opening.ensures name_of moves) lanes holds sound
