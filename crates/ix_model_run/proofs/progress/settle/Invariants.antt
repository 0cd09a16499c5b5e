use Rattle.std.proofs.Common.{◌≡◌}
use Rattle.ix_lanes.specs.Progress.{settled}
use Rattle.ix_model.specs.Units.{units_at}
use Rattle.ix_model_run.proofs.progress.settle.Given as goal

-- what is to come is what was to come
abbrev pub invariant-loop-ask : goal.invariant-loop-ask
invariant-loop-ask l = settled (units_at l.publications) l.lane.progress ≡ settled (units_at l.publications) l.initial.lane.progress
