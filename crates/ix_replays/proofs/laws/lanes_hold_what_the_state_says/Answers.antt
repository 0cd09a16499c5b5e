use Rattle.ix_replays.specs.Run.{fresh, lanes_of}
use Rattle.ix_replays.proofs.Agreed.{first_hold, still_hold, end_holds}
use Rattle.ix_replays.proofs.Runs.{fresh_fits}
use Rattle.ix_replays.proofs.laws.lanes_hold_what_the_state_says.Goals as goal

pub returns-clause-begun : goal.returns-clause-begun
returns-clause-begun c name_of script opening = first_hold name_of script opening

pub returns-clause-kept : goal.returns-clause-kept
returns-clause-kept c name_of lanes run longer lane flag fits holds e =
    still_hold c.the_latest_publication_stands.ensures.prefix c.lanes_see_the_marks_of_their_events.ensures.same c.other_lanes_stay.ensures.hold name_of lanes run lane flag longer fits holds e

pub returns-clause-end : goal.returns-clause-end
returns-clause-end c name_of script opening order flags run e =
    end_holds c.the_latest_publication_stands.ensures.prefix c.lanes_see_the_marks_of_their_events.ensures.same c.other_lanes_stay.ensures.hold name_of (lanes_of name_of script) order flags
    (fresh name_of script opening) run (fresh_fits name_of script opening) (first_hold name_of script opening) e
