use Rattle.std.proofs.Common.{◌≡◌, replicate, None}
use Rattle.ix_model_run.proofs.known.none_staged.Given as goal

abbrev pub invariant-loop-lane : goal.invariant-loop-lane
invariant-loop-lane l = l.all.items ≡ replicate l.lane None
