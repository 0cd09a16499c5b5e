use Rattle.std.proofs.Common.{List}
use Rattle.ix_types.specs.Row.{edge_cmp}
use Rattle.ix_types.specs.declared.row.EdgeRow.{EdgeRow}
use Rattle.ix_model.specs.SortedSet.{sorted_set, IsSortedSetOf}
use Rattle.ix_hierarchy.proofs.Sorted.{same_edge}
use Rattle.ix_hierarchy.proofs.sets.set_of_edges.Goals as goal

pub sorted-requires : goal.sorted-requires
sorted-requires c x y e = same_edge x y e

pub returns : goal.returns
returns c =
    let items : List EdgeRow = c.args.edges.items in
    let set : IsSortedSetOf edge_cmp items c.sorted.result.items = record { rises = c.sorted.ensures.rises; same = c.sorted.ensures.same } in
    c.edges_have_one_sorted_set.ensures.one items c.sorted.result.items (sorted_set edge_cmp items) set (c.edges_have_one_sorted_set.ensures.set items)
