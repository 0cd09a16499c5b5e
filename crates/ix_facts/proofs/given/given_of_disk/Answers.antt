use Rattle.ix_facts.proofs.given.given_of_disk.Goals as goal

pub returns : goal.returns
returns c = record {
  contents = c.contents_have_bytes.ensures;
  settled = c.settled_area_leaves_what_stands.ensures;
  stamps = c.stamps_are_those_of_files.ensures;
  one_spelling = c.one_spelling.ensures;
  one_value = c.one_value.ensures;
}
