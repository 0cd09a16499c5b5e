use Rattle.ix_stops.proofs.Whole.{synced_units, synced_refused}
use Rattle.ix_stops.proofs.steps.what_is_synced_stays.Goals as goal

pub returns-clause-units : goal.returns-clause-units
returns-clause-units c name_of earlier publications before now from base image leaves counts within none left = synced_units c.given.ensures name_of earlier publications before now from base leaves counts within none image left

pub returns-clause-refused : goal.returns-clause-refused
returns-clause-refused c name_of earlier publications before now from base image leaves counts within none left = synced_refused c.given.ensures name_of earlier publications before now from base leaves counts within none image left
