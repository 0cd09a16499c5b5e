use Rattle.std.proofs.Common.{◌≡◌, map, take}
use Rattle.ix_answers.proofs.walks.ends_of.Given as goal

abbrev pub invariant-loop-edge : goal.invariant-loop-edge
invariant-loop-edge l = l.ends.items ≡ map (λ e. e.to) (take l.edge-index l.edges)
