use Rattle.ix_one_lane.proofs.given.given.Goals as goal

pub returns : goal.returns
returns c = record {
  latest = c.the_latest_publication_stands.ensures.put;
  put_stands = c.calls_change_what_they_name.ensures.put_stands;
  put_others = c.calls_change_what_they_name.ensures.put_others;
  published = c.a_publish_adds_what_is_staged.ensures.added;
  answered = c.answers_are_those_to_the_asks.ensures;
  own = c.calls_are_steps.ensures.own;
  ended = c.runs_leave_no_call.ensures.ended;
  calls = c.lanes_have_calls_while_they_have_tasks.ensures;
  ready = c.accepted_scripts_are_ready.ensures;
  comes = c.runs_are_the_machines.ensures.comes;
  agrees = c.runs_are_the_machines.ensures.agrees;
  left = c.lanes_agree_with_the_state.ensures.tasks;
  sound = c.runs_are_the_machines.ensures.sound;
}
