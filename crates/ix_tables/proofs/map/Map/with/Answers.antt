use Rattle.std.proofs.Common.{ap, ◌∙◌}
use Rattle.ix_types.specs.Row.{text_cmp}
use Rattle.ix_pages.specs.Pairs.{with_pair}
use Rattle.ix_tables.specs.Sharing.{shared_value}
use Rattle.ix_tables.proofs.Shared.{with-opened}
use Rattle.ix_tables.proofs.map.Map.with.Goals as goal

pub returns : goal.returns
returns g c =
    with-opened c.self.inside.pages c.in_ok-pages.pages c.args.name c.args.value
    (c.pages_are_the_pairs.ensures.with 64 c.self.inside.pages (c.args.name, c.args.value) c.len-rising.ensures.pages.rising) c.in_ok-pages.ensures
    ∙ ap (λ es. with_pair text_cmp es (c.args.name, shared_value c.args.value)) c.self.view_is
