use Rattle.std.proofs.Common.{◌≡◌, fold}
use Rattle.ix_index.specs.Dealing.{dealt_of, with_dealt}
use Rattle.ix_index.proofs.parts.deal_all.Given as goal

abbrev pub invariant-loop-step : goal.invariant-loop-step
invariant-loop-step g l = dealt_of l.parts ≡ fold (with_dealt g.K.Ord.cmp) (dealt_of l.initial.parts) l.yielded
