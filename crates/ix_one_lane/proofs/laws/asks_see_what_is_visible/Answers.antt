use Rattle.ix_one_lane.proofs.Runs.{asks_see}
use Rattle.ix_one_lane.proofs.laws.asks_see_what_is_visible.Goals as goal

pub returns : goal.returns
returns c name_of steps turns opening order later flags more run end query behind naming accepted none comes on ended t d =
    asks_see c.given.ensures name_of steps turns opening naming accepted query behind run later more end (record { order = order; flags = flags; comes = comes }) none on ended t d
