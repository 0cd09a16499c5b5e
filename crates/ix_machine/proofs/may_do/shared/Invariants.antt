use Rattle.std.proofs.Common.{◌≡◌, map}
use Rattle.ix_machine.proofs.may_do.shared.Given as goal

abbrev pub invariant-loop-value : goal.invariant-loop-value
invariant-loop-value l = map (λ v. v.value) l.all.items ≡ l.yielded
