use Rattle.std.proofs.Common.{◌≡◌, ◌++◌, map, take}
use Rattle.ix_tables.proofs.moves.append_deps.Given as goal

abbrev pub invariant-loop-dep : goal.invariant-loop-dep
invariant-loop-dep l = l.names.items ≡ l.initial.names.items ++ map (λ dep. dep.name) (take l.dep-index l.deps)
