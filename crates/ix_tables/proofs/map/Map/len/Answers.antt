use Rattle.std.proofs.Common.{subst}
use Rattle.ix_types.specs.Row.{text_cmp}
use Rattle.ix_pages.specs.Pairs.{IsRising}
use Rattle.ix_pages.specs.Paging.{pairs_of}
use Rattle.ix_tables.proofs.Shared.{rising-shared}
use Rattle.ix_tables.proofs.map.Map.len.Goals as goal

pub returns-clause-rises : goal.returns-clause-rises
returns-clause-rises g c = subst (λ es. IsRising text_cmp es) c.self.view_is (rising-shared (pairs_of c.self.inside.pages) c.len.ensures.pages.rising)
