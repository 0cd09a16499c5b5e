use Rattle.ix_changes.proofs.laws.given_looks.Goals as goal

pub returns : goal.returns
returns c = record {
  contents = c.contents_have_bytes.ensures;
  same_file = c.equal_stamps_mean_the_same_file.ensures;
  stamp_of = c.stamps_are_those_of_files.ensures;
  is_changed = c.changed_names_are_those.ensures;
  is_gone = c.gone_names_are_those.ensures;
  one_unit = c.one_value.ensures;
  one_record = c.one_value-2.ensures;
}
