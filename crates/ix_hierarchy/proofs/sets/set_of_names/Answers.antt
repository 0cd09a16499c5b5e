use Rattle.std.proofs.Common.{ℕ, List}
use Rattle.ix_types.specs.Row.{text_cmp}
use Rattle.ix_model.specs.SortedSet.{sorted_set, IsSortedSetOf}
use Rattle.ix_hierarchy.proofs.sets.set_of_names.Goals as goal

pub returns : goal.returns
returns c =
    let items : List (List ℕ) = c.args.names.items in
    let set : IsSortedSetOf text_cmp items c.sorted.result.items = record { rises = c.sorted.ensures.rises; same = c.sorted.ensures.same } in
    c.the_sorted_set_is_one.ensures.texts items c.sorted.result.items (sorted_set text_cmp items) set (c.answers_are_sorted_sets.ensures.texts items)
