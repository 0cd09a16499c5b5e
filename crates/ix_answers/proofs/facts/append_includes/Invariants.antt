use Rattle.std.proofs.Common.{◌≡◌, ◌++◌, take}
use Rattle.ix_answers.proofs.facts.append_includes.Given as goal

abbrev pub invariant-loop-include : goal.invariant-loop-include
invariant-loop-include l = l.out.items ≡ l.initial.out.items ++ take l.include-index l.includes
