use Rattle.std.proofs.Common.{◌≡◌, ◌++◌, take, filter}
use Rattle.std.specs.List.{flat_map}
use Rattle.ix_model.specs.Rows.{rows_of_record}
use Rattle.ix_query.proofs.rows.append_at_paths.Given as goal

abbrev pub invariant-loop-path : goal.invariant-loop-path
invariant-loop-path g l = l.out.items ≡ l.initial.out.items ++ flat_map (λ path. filter (g.C.Choice.passes l.key l.mask) (rows_of_record path l.value)) (take l.path-index l.paths)
