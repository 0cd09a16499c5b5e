use Rattle.ix_ledger.proofs.Maps.{handed_with}
use Rattle.ix_ledger.proofs.unit_map.UnitMap.with.Goals as goal

pub returns : goal.returns
returns c = handed_with c.self.inside.pages c.in_ok-pages.pages c.args.self.now c.self.view_is c.args.name c.in_ok-handle.handle c.args.unit.now.value c.in_ok-pages.ensures
    (c.pages_are_the_pairs.ensures.with 64 c.self.inside.pages (c.args.name, c.in_ok-handle.handle) c.len-pages.ensures.pages.rising) c.in_ok-handle.ensures
