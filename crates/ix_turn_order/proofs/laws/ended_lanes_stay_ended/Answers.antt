use Rattle.ix_turn_order.proofs.Calls.{no_event, others_keep, stays_ended}
use Rattle.ix_turn_order.proofs.laws.ended_lanes_stay_ended.Goals as goal

pub returns-clause-others : goal.returns-clause-others
returns-clause-others c name_of lanes run longer lane other flag fits e apart =
    others_keep name_of lanes run longer other (λ tasks. c.an_event_takes_its_own_lane_on.ensures.others name_of lanes run longer lane other flag tasks fits e apart)

pub returns-clause-none : goal.returns-clause-none
returns-clause-none c name_of lanes run lane flag e = no_event name_of lanes run lane flag e

pub returns-clause-stay : goal.returns-clause-stay
returns-clause-stay c name_of lanes run next lane other made fits goes e =
    stays_ended name_of lanes (c.an_event_takes_its_own_lane_on.ensures.others name_of lanes) run next lane other made fits goes e
