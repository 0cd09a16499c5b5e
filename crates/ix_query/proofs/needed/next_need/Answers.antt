use Rattle.std.proofs.Common.{ℕ, List, ap, ◌∙◌}
use Rattle.ix_answers.specs.Needs.{lacking_of}
use Rattle.ix_lookups.specs.Loaded.{loaded_names}
use Rattle.ix_query.proofs.needed.next_need.Goals as goal

pub returns : goal.returns
returns g c units same =
    c.next_need.ensures.next ∙ ap (λ (names : List (List ℕ)). lacking_of (loaded_names c.args.bodies.now) names) (c.in_ok-question.ensures.needed units same)
