use Rattle.ix_ledger.proofs.Maps.{handed_rise}
use Rattle.ix_ledger.proofs.unit_map.UnitMap.names_rise.Goals as goal

pub returns : goal.returns
returns c = handed_rise c.self.inside.pages c.self.inside.pages c.args.self.now c.self.view_is c.len-pages.ensures.pages.rising
