use Rattle.std.proofs.Common.{◌∙◌, [], ◌∷◌, ap, arith}
use Rattle.ix_pages.specs.Changes.{pages_changed}
use Rattle.ix_pages.proofs.One.{one_put}
use Rattle.ix_pages.proofs.pages.Pages.with.Goals as goal

pub returns : goal.returns
returns g c =
    let room = c.show.ensures.room in
    c.in_ok-after.ensures
    ∙ ap (λ change. pages_changed g.K.Ord.cmp g.row.P c.args.self.now (change ∷ [])) c.in_ok-edit.ensures
    ∙ one_put g.K.Ord.cmp g.row.P c.args.self.now c.args.key c.args.value (omega (arith, room)) c.show.ensures.pages.sized
