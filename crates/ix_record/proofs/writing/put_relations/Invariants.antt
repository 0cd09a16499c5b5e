use Rattle.std.proofs.Common.{◌≡◌, ◌++◌, take}
use Rattle.std.specs.List.{flat_map}
use Rattle.ix_record.specs.Spelling.{relation_bytes}
use Rattle.ix_record.proofs.writing.put_relations.Given as goal

abbrev pub invariant-loop-relation : goal.invariant-loop-relation
invariant-loop-relation l = l.out.items ≡ l.fn.out.items ++ flat_map relation_bytes (take l.relation-index l.relations)
