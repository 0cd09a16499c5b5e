use Rattle.std.proofs.Common.{refl}
use Rattle.ix_pages.proofs.FallInto.{cut_few, cut_many}
use Rattle.ix_pages.proofs.laws.pairs_are_cut_in_halves.Goals as goal

pub returns : goal.returns
returns g c = record { none = λ most. refl; small = cut_few; large = cut_many }
