use Rattle.std.proofs.Common.{◌≡◌, map, take}
use Rattle.ix_outline.specs.Outline.{outline_symbol}
use Rattle.ix_outline.proofs.outline.symbols_of.Given as goal

abbrev pub invariant-loop-symbol : goal.invariant-loop-symbol
invariant-loop-symbol l = l.all.items ≡ map outline_symbol (take l.symbol-index l.symbols)
