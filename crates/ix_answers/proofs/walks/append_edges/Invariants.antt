use Rattle.std.proofs.Common.{◌≡◌, ◌++◌, map, filter, take}
use Rattle.ix_types.specs.Codes.{has_any}
use Rattle.ix_answers.specs.Walks.{edge, followed}
use Rattle.ix_answers.proofs.walks.append_edges.Given as goal

-- the edges of the relations so far
abbrev pub invariant-loop-relation : goal.invariant-loop-relation
invariant-loop-relation l =
    l.out.items ≡ l.initial.out.items ++ map (edge l.walk l.depth l.row) (filter (λ relation. has_any relation.roles (followed l.walk)) (take l.relation-index l.relation-items))
