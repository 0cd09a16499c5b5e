use Rattle.std.proofs.Common.{◌≡◌, ◌++◌, take, filter}
use Rattle.std.specs.List.{filter_map}
use Rattle.ix_model.specs.Rows.{occurrence_row}
use Rattle.ix_query.proofs.rows.append_occurrences.Given as goal

abbrev pub invariant-loop-occurrence : goal.invariant-loop-occurrence
invariant-loop-occurrence g l = l.out.items ≡ l.initial.out.items ++ filter (g.C.Choice.passes l.key l.mask) (filter_map (occurrence_row l.path l.symbols) (take l.occurrence-index l.occurrences))
