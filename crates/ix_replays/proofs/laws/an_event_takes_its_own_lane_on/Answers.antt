use Rattle.ix_replays.proofs.Steps.{other_lane, own_lane}
use Rattle.ix_replays.proofs.laws.an_event_takes_its_own_lane_on.Goals as goal

pub returns-clause-others : goal.returns-clause-others
returns-clause-others c name_of lanes run longer lane other flag tasks fits e apart =
    other_lane c.the_latest_publication_stands.ensures.prefix c.lanes_see_the_marks_of_their_events.ensures.same name_of lanes run longer lane other flag tasks fits e apart

pub returns-clause-own : goal.returns-clause-own
returns-clause-own c name_of lanes run longer lane flag tasks fits e =
    own_lane c.the_latest_publication_stands.ensures.prefix c.lanes_see_the_marks_of_their_events.ensures.same name_of lanes run longer lane flag tasks fits e
