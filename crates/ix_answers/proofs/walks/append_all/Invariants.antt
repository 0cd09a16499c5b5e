use Rattle.std.proofs.Common.{◌≡◌, ◌++◌}
use Rattle.ix_answers.proofs.walks.append_all.Given as goal

abbrev pub invariant-loop-item : goal.invariant-loop-item
invariant-loop-item g l = l.out.items ≡ l.initial.out.items ++ l.yielded
