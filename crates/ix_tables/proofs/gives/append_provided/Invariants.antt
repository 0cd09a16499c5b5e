use Rattle.std.proofs.Common.{◌≡◌, ◌++◌, map, take}
use Rattle.ix_tables.specs.Steps.{step_of}
use Rattle.ix_tables.proofs.gives.append_provided.Given as goal

abbrev pub invariant-loop-symbol : goal.invariant-loop-symbol
invariant-loop-symbol l = l.steps.items ≡ l.initial.steps.items ++ map (λ s. step_of l.gains (s.usr, l.name)) (take l.symbol-index l.symbols)
