use Rattle.ix_needs.proofs.Answered.{LowerLaws, answers-those}
use Rattle.ix_needs.proofs.laws.needed_records_suffice.Goals as goal

pub returns : goal.returns
returns c query units bodies plain holds loaded =
    let laws : LowerLaws = record {
      row_sets = c.answers_are_sorted_sets.ensures.rows;
      one_row_set = c.the_sorted_set_is_one.ensures.rows;
      text_sets = c.answers_are_sorted_sets.ensures.texts;
      one_text_set = c.the_sorted_set_is_one.ensures.texts;
      providers_are = c.look_ups_are_those.ensures.providers;
      related_are = c.look_ups_are_those.ensures.related;
      in_path_are = c.look_ups_are_those.ensures.in_path;
      paths_are = c.look_ups_are_those.ensures.paths;
      listing_are = c.look_ups_are_those.ensures.listing;
      mains_are = c.paths_and_units_are_those.ensures.mains;
    } in
    answers-those laws units bodies holds query plain loaded
