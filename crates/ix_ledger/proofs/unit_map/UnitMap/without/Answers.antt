use Rattle.ix_ledger.proofs.Maps.{handed_without}
use Rattle.ix_ledger.proofs.unit_map.UnitMap.without.Goals as goal

pub returns : goal.returns
returns c = handed_without c.self.inside.pages c.in_ok-pages.pages c.args.self.now c.self.view_is c.args.name.now c.in_ok-pages.ensures
    (c.pages_are_the_pairs.ensures.without c.self.inside.pages c.args.name.now c.len-pages.ensures.pages.rising)
