use Rattle.ix_dir.proofs.ValuesThatStoodStay.{stood_is_there}
use Rattle.ix_dir.proofs.laws.values_that_stood_stay.Goals as goal

pub returns : goal.returns
returns c moves area name value since unplaced = stood_is_there moves area name value since unplaced
