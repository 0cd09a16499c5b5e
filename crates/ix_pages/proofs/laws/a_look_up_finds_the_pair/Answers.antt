use Rattle.ix_pages.proofs.OtherWords.{look_up_found, look_up_none}
use Rattle.ix_pages.proofs.laws.a_look_up_finds_the_pair.Goals as goal

pub returns : goal.returns
returns g c = record { found = look_up_found g.met.K.Ord.total; none = look_up_none _ }
