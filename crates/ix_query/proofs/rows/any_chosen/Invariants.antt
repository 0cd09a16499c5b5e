use Rattle.std.proofs.Common.{◌≡◌, ℕ, List, [], take, filter}
use Rattle.std.specs.List.{filter_map}
use Rattle.ix_model.specs.Rows.{occurrence_row}
use Rattle.ix_query.proofs.rows.any_chosen.Given as goal

-- none is chosen so far, whichever path it is under
abbrev pub invariant-loop-occurrence : goal.invariant-loop-occurrence
invariant-loop-occurrence g l = (path : List ℕ) → filter (g.C.Choice.passes l.key l.mask) (filter_map (occurrence_row path l.symbols) (take l.occurrence-index l.occurrences)) ≡ []
