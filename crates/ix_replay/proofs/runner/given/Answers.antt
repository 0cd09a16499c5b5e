use Rattle.ix_replay.proofs.runner.given.Goals as goal

pub returns : goal.returns
returns c = record {
  kept = c.lanes_agree_with_the_state.ensures.kept;
  each = c.lanes_agree_with_the_state.ensures.each;
  tasks = c.lanes_agree_with_the_state.ensures.tasks;
  may = c.each_call_may_be_made.ensures.of_a_lane;
  seat = c.seats_see_the_mark_held.ensures.seat;
  settles = c.seats_see_the_mark_held.ensures.settled;
  loads = c.lacking_records_are_loaded_next.ensures;
  made = c.calls_are_steps.ensures.made;
  over = c.calls_are_steps.ensures.ended;
  own = c.calls_are_steps.ensures.own;
  held = c.earlier_marks_stay.ensures.held;
  others = c.an_event_takes_its_own_lane_on.ensures.others;
  grows = c.steps_join.ensures.grows;
  still = c.syncs_change_nothing.ensures.leaves;
  under_way = c.other_steps_leave_the_import.ensures.under_way;
}
