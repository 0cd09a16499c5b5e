use Rattle.std.proofs.Common.{◌≡◌, ◌++◌, take}
use Rattle.std.specs.List.{flat_map}
use Rattle.ix_unit.specs.Spelling.{file_dep_bytes}
use Rattle.ix_unit.proofs.writing.put_file_deps.Given as goal

abbrev pub invariant-loop-dep : goal.invariant-loop-dep
invariant-loop-dep l = l.out.items ≡ l.fn.out.items ++ flat_map file_dep_bytes (take l.dep-index l.files)
