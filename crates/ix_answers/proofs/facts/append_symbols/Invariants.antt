use Rattle.std.proofs.Common.{◌≡◌, ◌++◌, map, take}
use Rattle.ix_answers.specs.Facts.{held_symbol}
use Rattle.ix_answers.proofs.facts.append_symbols.Given as goal

abbrev pub invariant-loop-symbol : goal.invariant-loop-symbol
invariant-loop-symbol l = l.out.items ≡ l.initial.out.items ++ map (held_symbol l.name) (take l.symbol-index l.symbols)
