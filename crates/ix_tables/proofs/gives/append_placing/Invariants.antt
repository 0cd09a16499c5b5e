use Rattle.std.proofs.Common.{◌≡◌, ◌++◌, map, take}
use Rattle.ix_tables.specs.Steps.{step_of}
use Rattle.ix_tables.proofs.gives.append_placing.Given as goal

abbrev pub invariant-loop-dep : goal.invariant-loop-dep
invariant-loop-dep l = l.steps.items ≡ l.initial.steps.items ++ map (λ dep. step_of l.gains (dep.path, dep.name)) (take l.dep-index l.deps)
