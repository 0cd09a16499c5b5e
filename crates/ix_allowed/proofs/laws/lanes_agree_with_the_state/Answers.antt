use Rattle.ix_allowed.proofs.Runs.{first_agree, still_agree, lane_agrees, lane_tasks}
use Rattle.ix_allowed.proofs.laws.lanes_agree_with_the_state.Goals as goal

pub returns-clause-begun : goal.returns-clause-begun
returns-clause-begun c name_of poller script opening =
    first_agree c.runs_keep_their_marks.ensures.begun c.lanes_hold_what_the_state_says.ensures.begun c.a_run_begins_with_what_is_found.ensures.leased c.a_run_begins_with_what_is_found.ensures.lanes name_of poller script opening

pub returns-clause-kept : goal.returns-clause-kept
returns-clause-kept c name_of poller lanes run longer lane flag ready agrees e =
    still_agree (record {
      kept = c.runs_keep_their_marks.ensures.kept;
      others = c.an_event_takes_its_own_lane_on.ensures.others;
      own = c.an_event_takes_its_own_lane_on.ensures.own;
      holds = c.lanes_hold_what_the_state_says.ensures.kept;
      stays = c.other_lanes_stay.ensures.lease;
    }) name_of poller lanes ready run longer lane flag agrees e

pub returns-clause-each : goal.returns-clause-each
returns-clause-each c name_of poller lanes run lane tasks ready agrees there = lane_agrees name_of poller lanes ready run agrees lane tasks there

pub returns-clause-tasks : goal.returns-clause-tasks
returns-clause-tasks c name_of poller lanes run lane tasks ready there = lane_tasks name_of poller lanes ready run lane tasks there
