use Rattle.ix_pages.proofs.OtherWords.{with_one, with_first, without_one, without_first}
use Rattle.ix_pages.proofs.laws.a_change_falls_into_one_page.Goals as goal

pub returns : goal.returns
returns g c = record { with = with_one g.met.K.Ord.total; with_first = with_first _; without = without_one g.met.K.Ord.total; without_first = without_first _ }
