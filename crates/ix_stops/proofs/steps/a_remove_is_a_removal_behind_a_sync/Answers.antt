use Rattle.ix_stops.proofs.MachineSteps.{remove_made}
use Rattle.ix_stops.proofs.steps.a_remove_is_a_removal_behind_a_sync.Goals as goal

pub returns : goal.returns
returns c name_of s moves lane output name settled stepped now stands taken named made = remove_made c.given.ensures c.given_steps.ensures name_of s moves stands lane output name settled stepped taken named now made
