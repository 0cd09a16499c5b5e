use Rattle.std.proofs.Common.{◌≡◌, take}
use Rattle.std.specs.List.{flat_map}
use Rattle.ix_answers.specs.Walks.{edges_of_row}
use Rattle.ix_answers.proofs.walks.edges_from.Given as goal

-- the edges of the rows so far
abbrev pub invariant-loop-row : goal.invariant-loop-row
invariant-loop-row l = l.edges.items ≡ flat_map (edges_of_row l.walk l.depth) (take l.row-index l.all)
