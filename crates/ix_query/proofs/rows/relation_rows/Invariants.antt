use Rattle.std.proofs.Common.{◌≡◌, take}
use Rattle.std.specs.List.{filter_map}
use Rattle.ix_model.specs.Rows.{relation_row}
use Rattle.ix_query.proofs.rows.relation_rows.Given as goal

abbrev pub invariant-loop-relation : goal.invariant-loop-relation
invariant-loop-relation l = l.rows.items ≡ filter_map (relation_row l.symbols) (take l.relation-index l.relations)
