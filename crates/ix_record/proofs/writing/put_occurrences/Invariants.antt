use Rattle.std.proofs.Common.{◌≡◌, ◌++◌, take}
use Rattle.std.specs.List.{flat_map}
use Rattle.ix_record.specs.Spelling.{occurrence_bytes}
use Rattle.ix_record.proofs.writing.put_occurrences.Given as goal

abbrev pub invariant-loop-occurrence : goal.invariant-loop-occurrence
invariant-loop-occurrence l = l.out.items ≡ l.fn.out.items ++ flat_map occurrence_bytes (take l.occurrence-index l.occurrences)
