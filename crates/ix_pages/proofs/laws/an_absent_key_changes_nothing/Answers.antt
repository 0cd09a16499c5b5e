use Rattle.ix_pages.proofs.OtherWords.{absent_stays}
use Rattle.ix_pages.proofs.laws.an_absent_key_changes_nothing.Goals as goal

pub returns : goal.returns
returns g c = λ most pages key are absent. absent_stays g.K.Ord.cmp most pages key are.sized absent
