use Rattle.std.proofs.Common.{refl}
use Rattle.ix_pages.proofs.FallInto.{alone, parted}
use Rattle.ix_pages.proofs.laws.changes_fall_into_pages.Goals as goal

pub returns : goal.returns
returns g c = record { empty = λ most changes. refl; alone = alone g.K.Ord.cmp; parted = parted g.met.K.Ord.total }
