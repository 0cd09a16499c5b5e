use Rattle.std.proofs.Common.{◌≡◌, ◌++◌, ℕ, List, take}
use Rattle.std.specs.List.{filter_map}
use Rattle.ix_model.specs.Rows.{occurrence_row}
use Rattle.ix_answers.specs.Walks.{edges_from}
use Rattle.ix_hierarchy.specs.Marks.{marks_of}
use Rattle.ix_hierarchy.proofs.edges.append_at.Given as goal

-- the edges of the occurrences so far, for the level that the marks tell
abbrev pub invariant-loop-occurrence : goal.invariant-loop-occurrence
invariant-loop-occurrence l =
    (level : List (List ℕ)) → l.marks ≡ marks_of level l.symbols
    → l.out.items ≡ l.initial.out.items ++ edges_from l.walk l.depth level (filter_map (occurrence_row l.path l.symbols) (take l.occurrence-index l.occurrences))
