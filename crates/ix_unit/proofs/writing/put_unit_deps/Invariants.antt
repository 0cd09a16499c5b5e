use Rattle.std.proofs.Common.{◌≡◌, ◌++◌, take}
use Rattle.std.specs.List.{flat_map}
use Rattle.ix_unit.specs.Spelling.{unit_dep_bytes}
use Rattle.ix_unit.proofs.writing.put_unit_deps.Given as goal

abbrev pub invariant-loop-output : goal.invariant-loop-output
invariant-loop-output l = l.out.items ≡ l.fn.out.items ++ flat_map unit_dep_bytes (take l.output-index l.units)
