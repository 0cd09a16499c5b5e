use Rattle.ix_types.specs.Row.{occurrence_cmp, text_cmp}
use Rattle.ix_model.proofs.Orders.{occurrence_cmp_total, occurrence_cmp-IsAntisymmetric, text_cmp_total, text_cmp-IsAntisymmetric}
use Rattle.ix_model.proofs.SortedSet.{sorted_set-IsSortedSetOf}
use Rattle.ix_model.proofs.laws.answers_are_sorted_sets.Goals as goal

pub returns-clause-rows : goal.returns-clause-rows
returns-clause-rows c = sorted_set-IsSortedSetOf occurrence_cmp occurrence_cmp_total occurrence_cmp-IsAntisymmetric

pub returns-clause-texts : goal.returns-clause-texts
returns-clause-texts c = sorted_set-IsSortedSetOf text_cmp text_cmp_total text_cmp-IsAntisymmetric
