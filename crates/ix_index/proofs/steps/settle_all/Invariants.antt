use Rattle.std.proofs.Common.{◌≡◌, ◌++◌}
use Rattle.ix_index.specs.Gathering.{all_settled}
use Rattle.ix_index.proofs.steps.settle_all.Given as goal

abbrev pub invariant-loop-revision : goal.invariant-loop-revision
invariant-loop-revision g l = l.revisions.items ≡ l.initial.revisions.items ++ all_settled l.yielded
