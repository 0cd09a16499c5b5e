use Rattle.std.proofs.Common.{◌≡◌, []}
use Rattle.ix_index.specs.Gathering.{gathered}
use Rattle.ix_index.proofs.steps.gather_all.Given as goal

abbrev pub invariant-loop-step : goal.invariant-loop-step
invariant-loop-step g l = l.revisions.items ≡ gathered g.K.Ord.cmp g.V.Ord.cmp [] l.yielded
