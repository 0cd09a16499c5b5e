use Rattle.std.proofs.Common.{ap, ◌∙◌}
use Rattle.ix_lookups.specs.Found.{Found}
use Rattle.ix_needs.specs.Chosen.{needed_from}
use Rattle.ix_query.proofs.Lifted.{on_ok}
use Rattle.ix_query.proofs.question.Question.open.Goals as goal

pub returns-clause-needed : goal.returns-clause-needed
returns-clause-needed g c =
    on_ok c.of.result _ _ (λ question is units same. is ∙ (ap (λ (found : Found). needed_from c.args.query.now found) same ∙ c.look_ups_name_the_needs.ensures c.args.query.now units c.requires)) c.of.ensures.needed
