use Rattle.ix_replays.proofs.Runs.{fresh_fits, next_fits}
use Rattle.ix_replays.proofs.laws.runs_keep_their_marks.Goals as goal

pub returns-clause-begun : goal.returns-clause-begun
returns-clause-begun c name_of script opening = fresh_fits name_of script opening

pub returns-clause-kept : goal.returns-clause-kept
returns-clause-kept c name_of lanes run longer lane flag fits e = (next_fits name_of lanes run lane flag longer fits e).fits

pub returns-clause-falls : goal.returns-clause-falls
returns-clause-falls c name_of lanes run longer lane flag fits e = (next_fits name_of lanes run lane flag longer fits e).falls
