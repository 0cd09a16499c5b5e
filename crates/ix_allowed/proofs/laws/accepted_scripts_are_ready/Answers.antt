use Rattle.ix_allowed.proofs.Tasks.{poller_of, tasks_ready}
use Rattle.ix_allowed.proofs.laws.accepted_scripts_are_ready.Goals as goal

pub returns : goal.returns
returns c name_of script naming accepted = (
  poller_of script.lanes,
  tasks_ready (record {
    room = c.short_plans_have_room.ensures;
    valid = c.jobs_are_valid.ensures.unit;
    whole = c.jobs_are_valid.ensures.whole;
    written = c.jobs_are_valid.ensures.written;
    bodies = c.units_have_what_is_planned.ensures.bodies;
    names = c.units_have_what_is_planned.ensures.names;
  }) name_of naming script accepted,
)
