use Rattle.std.proofs.Common.{ap, ◌∙◌}
use Rattle.std.specs.FinMap.{get}
use Rattle.ix_cabinet.proofs.StampsByName.{found}
use Rattle.ix_cabinet.proofs.stamps.Stamps.get.Goals as goal

pub returns : goal.returns
returns c =
    let name = c.args.name.now in
    c.copied.ensures ∙ c.get.ensures.value ∙ found c.self.inside.stamps.entries name c.self.invariant ∙ ap (λ m. get m name) c.self.view_is
