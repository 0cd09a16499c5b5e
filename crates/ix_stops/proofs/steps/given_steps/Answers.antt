use Rattle.ix_stops.proofs.steps.given_steps.Goals as goal

pub returns : goal.returns
returns c = record {
  refused = c.refusals_change_nothing_else.ensures.refused;
  unsynced = c.refusals_change_nothing_else.ensures.unsynced;
  put_changes = c.calls_change_what_they_name.ensures.put;
  put_stands = c.calls_change_what_they_name.ensures.put_stands;
  put_others = c.calls_change_what_they_name.ensures.put_others;
  added = c.a_publish_adds_what_is_staged.ensures.added;
  removed = c.collects_take_loose_records.ensures.removed;
  nothing = c.collects_take_loose_records.ensures.nothing;
}
