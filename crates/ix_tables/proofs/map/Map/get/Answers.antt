use Rattle.std.proofs.Common.{ap, ◌∙◌}
use Rattle.std.specs.Option.{option_map}
use Rattle.ix_types.specs.Row.{text_cmp}
use Rattle.ix_pages.specs.Pairs.{look_up}
use Rattle.ix_pages.specs.Paging.{pairs_of}
use Rattle.ix_tables.specs.Sharing.{shared_value}
use Rattle.ix_tables.proofs.Shared.{found-shared}
use Rattle.ix_tables.proofs.map.Map.get.Goals as goal

pub returns : goal.returns
returns g c =
    ap (option_map shared_value) c.get.ensures
    ∙ (found-shared (pairs_of c.self.inside.pages) c.args.name.now ∙ ap (λ es. look_up text_cmp es c.args.name.now) c.self.view_is)
