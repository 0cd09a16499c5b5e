use Rattle.std.proofs.Common.{List}
use Rattle.ix_types.specs.Row.{occurrence_cmp}
use Rattle.ix_model.specs.SortedSet.{sorted_set, IsSortedSetOf}
use Rattle.ix_types.specs.declared.row.OccRow.{OccRow}
use Rattle.ix_query.proofs.Sorted.{same_row}
use Rattle.ix_query.proofs.sets.set_of_rows.Goals as goal

pub sorted-requires : goal.sorted-requires
sorted-requires c x y e = same_row x y e

pub returns : goal.returns
returns c =
    let items : List (OccRow) = c.args.rows.items in
    let set : IsSortedSetOf occurrence_cmp items c.sorted.result.items = record { rises = c.sorted.ensures.rises; same = c.sorted.ensures.same } in
    c.the_sorted_set_is_one.ensures.rows items c.sorted.result.items (sorted_set occurrence_cmp items) set (c.answers_are_sorted_sets.ensures.rows items)
