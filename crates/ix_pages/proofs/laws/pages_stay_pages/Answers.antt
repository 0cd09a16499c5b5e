use Rattle.ix_pages.proofs.Kept.{are_pages_with, are_pages_without}
use Rattle.ix_pages.proofs.OneGo.{are_pages_changed}
use Rattle.ix_pages.proofs.laws.pages_stay_pages.Goals as goal

pub returns : goal.returns
returns g c = record {
  with = are_pages_with g.met.K.Ord.total;
  without = are_pages_without g.met.K.Ord.total;
  all = λ most pages changes room up are. are_pages_changed g.met.K.Ord.total most pages changes room up are;
}
