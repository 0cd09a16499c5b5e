use Rattle.std.proofs.Common.{map}
use Rattle.std.specs.List.{flat_map}
use Rattle.ix_answers.specs.Lookups.{providers, related, named, names, coded, in_path, paths, listing}
use Rattle.ix_outline.specs.Known.{bare}
use Rattle.ix_outline.specs.Facts.{provided, relating, naming, coding, placing, pathing, listing_facts}
use Rattle.ix_outline.proofs.Finding.{SetLaws, values-are, keys-are}
use Rattle.ix_outline.proofs.Recorded.{provided-those, relating-those, naming-those, names-out, names-back, coding-those, placing-those, pathing-those, listing-those}
use Rattle.ix_outline.proofs.Joined.{bare-at}
use Rattle.ix_outline.proofs.Pathed.{listed-by-path}
use Rattle.ix_outline.proofs.laws.what_is_given_is_what_look_ups_find.Goals as goal

pub returns-clause-providers : goal.returns-clause-providers
returns-clause-providers c = λ units known usr are rises.
    let laws : SetLaws = record { sets = c.answers_are_sorted_sets.ensures.texts; one = c.the_sorted_set_is_one.ensures.texts } in
    values-are laws usr (flat_map provided known.outlines) (providers usr units) (c.all_is_sorted.ensures.providers units usr)
    (λ name. let l = c.look_ups_are_those.ensures.providers units usr name in let p = provided-those units known are rises usr name in (λ h. p.0 (l.0 h), λ h. l.1 (p.1 h)))

pub returns-clause-related : goal.returns-clause-related
returns-clause-related c = λ units known usr are rises.
    let laws : SetLaws = record { sets = c.answers_are_sorted_sets.ensures.texts; one = c.the_sorted_set_is_one.ensures.texts } in
    values-are laws usr (flat_map relating known.outlines) (related usr units) (c.all_is_sorted.ensures.related units usr)
    (λ name. let l = c.look_ups_are_those.ensures.related units usr name in let p = relating-those units known are rises laws usr name in (λ h. p.0 (l.0 h), λ h. l.1 (p.1 h)))

pub returns-clause-named : goal.returns-clause-named
returns-clause-named c = λ units known name are rises.
    let laws : SetLaws = record { sets = c.answers_are_sorted_sets.ensures.texts; one = c.the_sorted_set_is_one.ensures.texts } in
    values-are laws name (flat_map naming known.outlines) (named name units) (c.all_is_sorted.ensures.named units name)
    (λ usr. let l = c.look_ups_are_those.ensures.named units name usr in let p = naming-those units known are rises name usr in (λ h. p.0 (l.0 h), λ h. l.1 (p.1 h)))

pub returns-clause-names : goal.returns-clause-names
returns-clause-names c = λ units known are rises.
    let laws : SetLaws = record { sets = c.answers_are_sorted_sets.ensures.texts; one = c.the_sorted_set_is_one.ensures.texts } in
    keys-are laws (flat_map naming known.outlines) (names units) (c.all_is_sorted.ensures.names units)
    (λ name h. names-out units known are rises name ((c.look_ups_are_those.ensures.names units name).0 h))
    (λ name usr h. (c.look_ups_are_those.ensures.names units name).1 (names-back units known are rises name usr h))

pub returns-clause-coded : goal.returns-clause-coded
returns-clause-coded c = λ units known codegen are rises.
    let laws : SetLaws = record { sets = c.answers_are_sorted_sets.ensures.texts; one = c.the_sorted_set_is_one.ensures.texts } in
    values-are laws codegen (flat_map coding known.outlines) (coded codegen units) (c.all_is_sorted.ensures.coded units codegen)
    (λ usr. let l = c.look_ups_are_those.ensures.coded units codegen usr in let p = coding-those units known are rises codegen usr in (λ h. p.0 (l.0 h), λ h. l.1 (p.1 h)))

pub returns-clause-in_path : goal.returns-clause-in_path
returns-clause-in_path c = λ units path.
    let laws : SetLaws = record { sets = c.answers_are_sorted_sets.ensures.texts; one = c.the_sorted_set_is_one.ensures.texts } in
    values-are laws path (flat_map placing (map bare units)) (in_path path units) (c.all_is_sorted.ensures.in_path units path)
    (λ name. let l = c.look_ups_are_those.ensures.in_path units path name in let p = placing-those units path name in (λ h. p.0 (l.0 h), λ h. l.1 (p.1 h)))

pub returns-clause-paths : goal.returns-clause-paths
returns-clause-paths c = λ units name.
    let laws : SetLaws = record { sets = c.answers_are_sorted_sets.ensures.texts; one = c.the_sorted_set_is_one.ensures.texts } in
    values-are laws name (flat_map pathing (map bare units)) (paths name units) (c.all_is_sorted.ensures.paths units name)
    (λ path. let l = c.look_ups_are_those.ensures.paths units name path in let p = pathing-those units name path in (λ h. p.0 (l.0 h), λ h. l.1 (p.1 h)))

pub returns-clause-listing : goal.returns-clause-listing
returns-clause-listing c = λ units path.
    let laws : SetLaws = record { sets = c.answers_are_sorted_sets.ensures.texts; one = c.the_sorted_set_is_one.ensures.texts } in
    values-are laws path (flat_map listing_facts (map bare units)) (listing path units) (c.all_is_sorted.ensures.listing units path)
    (λ name. let l = c.look_ups_are_those.ensures.listing units path name in let p = listing-those units path name in (λ h. p.0 (l.0 h), λ h. l.1 (p.1 h)))

pub returns-clause-unit : goal.returns-clause-unit
returns-clause-unit c = bare-at

pub returns-clause-listed : goal.returns-clause-listed
returns-clause-listed c = λ units name.
    listed-by-path (record { sets = c.answers_are_sorted_sets.ensures.texts; one = c.the_sorted_set_is_one.ensures.texts }) units name
