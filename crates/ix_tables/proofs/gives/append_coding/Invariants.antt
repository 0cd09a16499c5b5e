use Rattle.std.proofs.Common.{◌≡◌, ◌++◌, ◌==◌, not, length, map, filter, take}
use Rattle.ix_tables.specs.Steps.{step_of}
use Rattle.ix_tables.proofs.gives.append_coding.Given as goal

abbrev pub invariant-loop-symbol : goal.invariant-loop-symbol
invariant-loop-symbol l = l.steps.items ≡ l.initial.steps.items ++ map (λ s. step_of l.gains (s.codegen, s.usr)) (filter (λ s. not (length s.codegen == 0)) (take l.symbol-index l.symbols))
