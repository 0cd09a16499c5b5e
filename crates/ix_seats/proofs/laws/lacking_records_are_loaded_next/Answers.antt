use Rattle.ix_seats.proofs.Marks.{loads-lacking}
use Rattle.ix_seats.proofs.laws.lacking_records_are_loaded_next.Goals as goal

pub returns : goal.returns
returns c seen current p asks = loads-lacking seen current p asks
