use Rattle.std.proofs.Common.{◌≡◌, ◌++◌, take}
use Rattle.std.specs.List.{filter_map}
use Rattle.ix_hierarchy.specs.Marks.{edge_found}
use Rattle.ix_hierarchy.proofs.edges.append_relations.Given as goal

abbrev pub invariant-loop-relation : goal.invariant-loop-relation
invariant-loop-relation l =
    l.out.items ≡ l.initial.out.items ++ filter_map (edge_found l.walk l.depth l.marks l.path l.symbols l.occurrence l.usr) (take l.relation-index l.relation-items)
