use Rattle.std.proofs.Common.{◌≡◌, ◌++◌, take}
use Rattle.std.specs.List.{filter_map}
use Rattle.ix_model.specs.Rows.{occurrence_row}
use Rattle.ix_model.proofs.from_units.append_occurrences.Given as goal

abbrev pub invariant-loop-occurrence : goal.invariant-loop-occurrence
invariant-loop-occurrence l =
    l.out.items ≡ l.initial.out.items ++ filter_map (occurrence_row l.path l.symbols) (take l.occurrence-index l.occurrences)
