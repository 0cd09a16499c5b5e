use Rattle.ix_pages.proofs.Changing.{none_changed}
use Rattle.ix_pages.proofs.FallInto.{first_stays, one_stays, last_stays}
use Rattle.ix_pages.proofs.laws.a_page_without_changes_stays.Goals as goal

pub returns : goal.returns
returns g c = record { all = none_changed g.K.Ord.cmp; first = first_stays g.K.Ord.cmp; between = one_stays g.met.K.Ord.total; last = last_stays g.met.K.Ord.total }
