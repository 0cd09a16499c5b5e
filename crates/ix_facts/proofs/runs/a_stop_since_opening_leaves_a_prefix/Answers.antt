use Rattle.ix_facts.proofs.Playing.{image_at, played_all}
use Rattle.ix_facts.proofs.SinceOpening.{Laws, early_at, units_since}
use Rattle.ix_facts.proofs.runs.a_stop_since_opening_leaves_a_prefix.Goals as goal

pub returns-clause-early : goal.returns-clause-early
returns-clause-early c name_of s first last calls start before now moment image at run was is opened =
    early_at c.given_of_steps.ensures c.early_images_are_those_handed_in.ensures name_of s first last calls start before now (played_all c.given_of_steps.ensures name_of calls s first last at run) was is opened moment image

pub returns-clause-units : goal.returns-clause-units
returns-clause-units c name_of s lanes first last calls start before now moment image begins at run was is opened counts =
    let laws : Laws = record {
      images = c.a_stop_keeps_sound_units.ensures.images;
      rise = c.found_names_rise.ensures.units;
      visible = c.a_run_begins_with_what_is_found.ensures.units;
      prefix = c.the_latest_publication_stands.ensures.prefix;
    } in
    units_since c.given_of_steps.ensures laws name_of s lanes first last calls start before now begins (played_all c.given_of_steps.ensures name_of calls s first last at run) was is opened counts moment image

pub returns-clause-refused : goal.returns-clause-refused
returns-clause-refused c name_of s first last calls before now moment image at run was is counts since within left =
    (image_at c.given_of_steps.ensures name_of s first last calls before now moment image (played_all c.given_of_steps.ensures name_of calls s first last at run) was is counts since within left).refused
