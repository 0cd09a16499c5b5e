use Rattle.std.proofs.Common.{◌≡◌, map, take}
use Rattle.ix_model_run.proofs.known.values_found.Given as goal

abbrev pub invariant-loop-value : goal.invariant-loop-value
invariant-loop-value l = l.copy.items ≡ map (λ v. v.value) (take l.value-index l.values)
