use Rattle.ix_changes.proofs.laws.given.Goals as goal

pub returns : goal.returns
returns c = record {
  settled_renamed = c.other_area_stays_settled.ensures.renamed;
  settled_removed = c.other_area_stays_settled.ensures.removed;
  settled_synced = c.other_area_stays_settled.ensures.synced;
  records_settled = c.syncs_change_nothing.ensures.records;
  others = c.other_steps_sync_at_most.ensures;
  put = c.a_put_is_a_rename.ensures;
  publish = c.a_publish_is_a_rename_behind_syncs.ensures;
  remove = c.a_remove_is_a_removal_behind_a_sync.ensures;
  collect = c.a_collect_is_a_removal_behind_a_sync.ensures.removed;
  collect_none = c.a_collect_is_a_removal_behind_a_sync.ensures.nothing;
}
