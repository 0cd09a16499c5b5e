use Rattle.std.proofs.Common.{◌≡◌, None, ◌∙◌}
use Rattle.ix_lookups.specs.Loaded.{loaded_names}
use Rattle.ix_hierarchy.proofs.Opened.{on_ok}
use Rattle.ix_hierarchy.proofs.answers.answer.Goals as goal

pub returns : goal.returns
returns g c =
    on_ok c.into_answer.result _ _
    (λ rows is units same holds loaded.
    let open_first = c.in_ok-walk.ensures units c.args.bodies.now same in
    let open_last = c.in_ok-_next.ensures.open c.args.query.now units same holds open_first in
    let none : c.in_ok-_next._next ≡ None =
    c.in_ok-_next.ensures.next c.args.query.now units same holds open_first ∙ (c.the_next_need_is_that.ensures.none c.args.query.now units (loaded_names c.args.bodies.now)).1 loaded in
    is c.args.query.now units c.args.bodies.now open_last (c.in_ok-_next.ensures.done none))
    c.into_answer.ensures
