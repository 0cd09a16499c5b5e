use Rattle.ix_stops.proofs.laws.given.Goals as goal

pub returns : goal.returns
returns c = record {
  contents = c.contents_have_bytes.ensures;
  sync_areas = c.sync_leaves.ensures.areas;
  sync_settled = c.sync_leaves.ensures.settled;
  rename = c.rename_leaves.ensures;
  removal = c.removal_leaves.ensures;
  one_renamed = c.one_change_more.ensures.renamed;
  one_removed = c.one_change_more.ensures.removed;
  other_renamed = c.other_values_stay.ensures.renamed;
  other_removed = c.other_values_stay.ensures.removed;
  other_synced = c.other_values_stay.ensures.synced;
  put = c.the_latest_publication_stands.ensures.put;
  gone = c.the_latest_publication_stands.ensures.gone;
  others = c.the_latest_publication_stands.ensures.others;
  rises = c.the_latest_publication_stands.ensures.rises;
  prefix = c.the_latest_publication_stands.ensures.prefix;
  marks = c.acknowledged_changes_are_synced.ensures.marks;
  found = c.opening_finds_sound_units.ensures.found;
}
