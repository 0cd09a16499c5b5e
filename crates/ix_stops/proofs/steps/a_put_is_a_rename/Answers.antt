use Rattle.ix_stops.proofs.MachineSteps.{put_made}
use Rattle.ix_stops.proofs.steps.a_put_is_a_rename.Goals as goal

pub returns : goal.returns
returns c name_of s moves lane body stepped stamp stands sound taken written = put_made c.given.ensures c.given_steps.ensures name_of s moves stands sound lane body stepped taken written stamp
