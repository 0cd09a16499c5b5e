use Rattle.std.proofs.Common.{ap, ◌∙◌}
use Rattle.ix_types.specs.Row.{text_cmp}
use Rattle.ix_pages.specs.Pairs.{without_key}
use Rattle.ix_tables.proofs.Shared.{without-opened}
use Rattle.ix_tables.proofs.map.Map.without.Goals as goal

pub returns : goal.returns
returns g c =
    without-opened c.self.inside.pages c.in_ok-pages.pages c.args.name.now
    (c.pages_are_the_pairs.ensures.without c.self.inside.pages c.args.name.now c.len-rising.ensures.pages.rising) c.in_ok-pages.ensures
    ∙ ap (λ es. without_key text_cmp es c.args.name.now) c.self.view_is
