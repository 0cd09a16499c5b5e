use Rattle.std.proofs.Common.{arith}
use Rattle.ix_ledger.proofs.InOneGo.{changes_rise, all_put}
use Rattle.ix_ledger.proofs.unit_map.UnitMap.of_puts.Goals as goal

pub with_all-requires : goal.with_all-requires
with_all-requires c = (
  omega arith,
  changes_rise c.args.puts.now c.in_ok-changes.changes.items c.in_ok-changes.ensures c.requires,
)

pub returns : goal.returns
returns c = all_put c.args.puts.now c.in_ok-changes.changes.items c.in_ok-changes.ensures c.requires c.empty-none.result c.in_ok-pages.pages c.empty-none.ensures c.in_ok-pages.ensures.pairs
