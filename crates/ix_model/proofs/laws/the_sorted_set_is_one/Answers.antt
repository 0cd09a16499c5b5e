use Rattle.ix_types.specs.Row.{occurrence_cmp, text_cmp}
use Rattle.ix_model.proofs.Orders.{occurrence_cmp_total, text_cmp_total}
use Rattle.ix_model.proofs.SortedSet.{same_set}
use Rattle.ix_model.proofs.laws.the_sorted_set_is_one.Goals as goal

pub returns-clause-rows : goal.returns-clause-rows
returns-clause-rows c = same_set occurrence_cmp occurrence_cmp_total

pub returns-clause-texts : goal.returns-clause-texts
returns-clause-texts c = same_set text_cmp text_cmp_total
