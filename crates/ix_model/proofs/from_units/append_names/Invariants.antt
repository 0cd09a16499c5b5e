use Rattle.std.proofs.Common.{◌≡◌, ◌++◌, map, take}
use Rattle.ix_model.proofs.from_units.append_names.Given as goal

abbrev pub invariant-loop-dep : goal.invariant-loop-dep
invariant-loop-dep l = l.out.items ≡ l.initial.out.items ++ map (λ dep. dep.name) (take l.dep-index l.deps)
