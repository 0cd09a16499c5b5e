use Rattle.ix_levels.proofs.Edges.{edges-those}
use Rattle.ix_levels.proofs.laws.needed_records_have_the_edges.Goals as goal

pub returns : goal.returns
returns c walk depth level units bodies e holds loaded =
    edges-those c.answers_are_sorted_sets.ensures.texts c.the_sorted_set_is_one.ensures.texts c.look_ups_are_those.ensures.providers c.look_ups_are_those.ensures.related c.look_ups_are_those.ensures.paths
    units bodies holds walk depth level e loaded
