use Rattle.std.proofs.Common.{◌≡◌, ◌++◌, take}
use Rattle.std.specs.List.{flat_map}
use Rattle.ix_model.specs.Rows.{rows_of_record}
use Rattle.ix_answers.specs.Walks.{edges_from}
use Rattle.ix_hierarchy.proofs.edges.append_record.Given as goal

abbrev pub invariant-loop-path : goal.invariant-loop-path
invariant-loop-path l = l.out.items ≡ l.initial.out.items ++ flat_map (λ path. edges_from l.walk l.depth l.level.keys (rows_of_record path l.value)) (take l.path-index l.paths)
