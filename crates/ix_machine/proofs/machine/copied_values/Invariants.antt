use Rattle.std.proofs.Common.{◌≡◌, map, take}
use Rattle.ix_machine.proofs.machine.copied_values.Given as goal

abbrev pub invariant-loop-value : goal.invariant-loop-value
invariant-loop-value l = map (λ v. v.value) l.copy.items ≡ map (λ v. v.value) (take l.value-index l.values)
