use Rattle.ix_pages.proofs.OtherWords.{look_up_put, look_up_not_put, look_up_taken, look_up_not_taken}
use Rattle.ix_pages.proofs.laws.a_change_changes_one_key.Goals as goal

pub returns : goal.returns
returns g c = record { put = look_up_put g.met.K.Ord.total; not_put = look_up_not_put g.met.K.Ord.total; taken = look_up_taken g.met.K.Ord.total; not_taken = look_up_not_taken g.met.K.Ord.total }
