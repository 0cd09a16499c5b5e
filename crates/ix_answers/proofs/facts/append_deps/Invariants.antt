use Rattle.std.proofs.Common.{◌≡◌, ◌++◌, take}
use Rattle.ix_answers.proofs.facts.append_deps.Given as goal

abbrev pub invariant-loop-dep : goal.invariant-loop-dep
invariant-loop-dep l = l.out.items ≡ l.initial.out.items ++ take l.dep-index l.deps
