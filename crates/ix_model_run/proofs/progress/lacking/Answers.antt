use Rattle.std.proofs.Common.{ℕ, List, is_none, ◌∙◌}
use Rattle.std.specs.List.{find}
use Rattle.ix_answers.specs.Needs.{need_of}
use Rattle.ix_lookups.specs.Loaded.{body_named}
use Rattle.ix_model_run.proofs.Names.{lacking_first}
use Rattle.ix_model_run.proofs.progress.lacking.Goals as goal

pub returns : goal.returns
returns c =
    c.first_lacking.ensures
    ∙ ((λ i. find (λ (name : List ℕ). is_none (body_named name (c.bodies.ensures.bodies i))) ((c.as_slice.ensures ∙ c.in_ok-needed.ensures) i))
    ∙ lacking_first c.answers_are_sorted_sets.ensures.texts c.loaded_names_have_bodies.ensures c.args.lane.now.bodies c.args.lane.now.progress.loaded
    (need_of c.args.query.now c.args.units.now.entries) c.bodies.ensures.names)
