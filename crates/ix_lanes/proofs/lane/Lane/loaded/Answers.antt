use Rattle.std.proofs.Common.{ap, ◌∙◌}
use Rattle.ix_lanes.specs.Progress.{with_loaded}
use Rattle.ix_lanes.specs.Views.{Under}
use Rattle.ix_lanes.proofs.Names.{Given, one_name_more, more}
use Rattle.ix_lanes.proofs.lane.Lane.loaded.Goals as goal

pub returns-clause-progress : goal.returns-clause-progress
returns-clause-progress c =
    let given : Given = record { sorted = c.answers_are_sorted_sets.ensures.texts; one = c.the_sorted_set_is_one.ensures.texts; named = c.loaded_names_have_bodies.ensures } in
    let names = one_name_more given c.self.inside.bodies c.add.new.self c.args.name c.args.body.value c.add.ensures.added c.add.ensures.others in
    more c.self.inside.agenda c.self.inside.doing c.self.inside.held c.self.inside.results.answers names
    ∙ ap (λ (u : Under). with_loaded c.args.name u.progress) c.self.view_is
