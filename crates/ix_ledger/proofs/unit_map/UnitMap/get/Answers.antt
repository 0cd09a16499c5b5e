use Rattle.ix_ledger.proofs.Maps.{handed_at}
use Rattle.ix_ledger.proofs.unit_map.UnitMap.get.Goals as goal

pub returns : goal.returns
returns c = handed_at c.self.inside.pages c.self.inside.pages c.args.self.now c.self.view_is c.args.name.now _ c.get.ensures
