use Rattle.ix_calls.proofs.Flags.{flags_agree}
use Rattle.ix_calls.proofs.laws.flags_are_those_that_runs_show.Goals as goal

pub returns : goal.returns
returns c = flags_agree
