use Rattle.ix_tables.proofs.Found.{values-found, keys-found}
use Rattle.ix_tables.proofs.laws.an_index_finds_what_facts_give.Goals as goal

pub returns-clause-values : goal.returns-clause-values
returns-clause-values c = λ index facts key of.
    values-found c.answers_are_sorted_sets.ensures.texts c.the_sorted_set_is_one.ensures.texts
    (record { rise = c.values_are_what_has_a_count.ensures.rise; each = c.values_are_what_has_a_count.ensures.each }) index facts key of

pub returns-clause-keys : goal.returns-clause-keys
returns-clause-keys c = λ index facts of.
    keys-found c.answers_are_sorted_sets.ensures.texts c.the_sorted_set_is_one.ensures.texts
    (record { rise = c.keys_are_what_has_a_value.ensures.rise; each = c.keys_are_what_has_a_value.ensures.each }) index facts of
