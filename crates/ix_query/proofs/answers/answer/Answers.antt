use Rattle.std.proofs.Common.{ap, ◌∙◌}
use Rattle.ix_lookups.specs.Found.{Found}
use Rattle.ix_needs.specs.Chosen.{answer_from}
use Rattle.ix_query.proofs.Lifted.{on_ok}
use Rattle.ix_query.proofs.answers.answer.Goals as goal

pub returns : goal.returns
returns g c =
    on_ok c.answer_from.result _ _
    (λ rows is units same holds loaded. is ∙ (ap (λ (found : Found). answer_from c.args.query.now found c.args.bodies.now) same ∙ c.needed_records_suffice.ensures c.args.query.now units c.args.bodies.now c.requires holds loaded))
    c.answer_from.ensures
