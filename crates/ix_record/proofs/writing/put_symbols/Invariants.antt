use Rattle.std.proofs.Common.{◌≡◌, ◌++◌, take}
use Rattle.std.specs.List.{flat_map}
use Rattle.ix_record.specs.Spelling.{symbol_bytes}
use Rattle.ix_record.proofs.writing.put_symbols.Given as goal

abbrev pub invariant-loop-symbol : goal.invariant-loop-symbol
invariant-loop-symbol l = l.out.items ≡ l.fn.out.items ++ flat_map (symbol_bytes l.format) (take l.symbol-index l.symbols)
