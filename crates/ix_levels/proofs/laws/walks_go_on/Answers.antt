use Rattle.ix_levels.proofs.Further.{goes-on}
use Rattle.ix_levels.proofs.laws.walks_go_on.Goals as goal

pub returns : goal.returns
returns c query units bodies before after holds open_before loaded next =
    goes-on c.answers_are_sorted_sets.ensures.texts c.the_sorted_set_is_one.ensures.texts c.look_ups_name_the_levels.ensures c.needed_records_have_the_edges.ensures
    query units bodies holds before after open_before loaded next
