use Rattle.ix_polls.proofs.laws.given.Goals as goal

pub returns : goal.returns
returns c = record {
  sets = c.answers_are_sorted_sets.ensures.texts;
  rises = c.the_latest_publication_stands.ensures.rises;
  begins = c.an_import_begins.ensures;
  takes = c.an_import_goes_on.ensures.takes;
  takings = record { there = c.an_import_goes_on.ensures.taken; others = c.an_import_goes_on.ensures.others };
  there = c.the_next_name_is_the_least.ensures.there;
  alone = c.records_that_stand_have_one_value.ensures.alone;
}
