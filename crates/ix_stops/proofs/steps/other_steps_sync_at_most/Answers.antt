use Rattle.ix_stops.proofs.MachineSteps.{nothing_changed}
use Rattle.ix_stops.proofs.steps.other_steps_sync_at_most.Goals as goal

pub returns : goal.returns
returns c name_of s next moves records units stands publications pending files = nothing_changed c.given.ensures c.given_steps.ensures name_of s moves stands next records units publications pending files
