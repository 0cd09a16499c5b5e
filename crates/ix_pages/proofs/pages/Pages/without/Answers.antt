use Rattle.std.proofs.Common.{◌∙◌}
use Rattle.ix_pages.proofs.One.{one_taken}
use Rattle.ix_pages.proofs.pages.Pages.without.Goals as goal

pub returns : goal.returns
returns g c = c.in_ok-after.ensures ∙ one_taken g.K.Ord.cmp g.row.P c.args.self.now c.args.key.now c.show-2.ensures.pages.sized
