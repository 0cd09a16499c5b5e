use Rattle.std.specs.List.Sorted.{IsStrictlySortedBy}
use Rattle.ix_ledger.proofs.tests.opened.Goals as goal

-- one name rises
pub open-requires : goal.open-requires
unfolding IsStrictlySortedBy
open-requires g c = (tt, tt)
