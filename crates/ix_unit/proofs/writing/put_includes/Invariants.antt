use Rattle.std.proofs.Common.{◌≡◌, ◌++◌, take}
use Rattle.std.specs.List.{flat_map}
use Rattle.ix_unit.specs.Spelling.{include_bytes}
use Rattle.ix_unit.proofs.writing.put_includes.Given as goal

abbrev pub invariant-loop-include : goal.invariant-loop-include
invariant-loop-include l = l.out.items ≡ l.fn.out.items ++ flat_map include_bytes (take l.include-index l.includes)
