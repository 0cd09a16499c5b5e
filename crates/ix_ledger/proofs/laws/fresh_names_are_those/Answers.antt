use Rattle.ix_ledger.proofs.FreshNames.{fresh_are}
use Rattle.ix_ledger.proofs.laws.fresh_names_are_those.Goals as goal

pub returns : goal.returns
returns c = fresh_are c.answers_are_sorted_sets.ensures.texts c.the_sorted_set_is_one.ensures.texts c.need_lists_are_exact.ensures.names
