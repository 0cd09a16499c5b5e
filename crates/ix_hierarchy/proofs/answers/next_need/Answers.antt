use Rattle.ix_hierarchy.proofs.Opened.{on_ok}
use Rattle.ix_hierarchy.proofs.answers.next_need.Goals as goal

pub returns : goal.returns
returns g c =
    on_ok c.next_need.result _ _
    (λ name is units same holds. is c.args.query.now units same holds (c.in_ok-walk.ensures units c.args.bodies.now same)) c.next_need.ensures.next
