use Rattle.ix_wire.proofs.Numbers.{a_fallen_number_is_refused}
use Rattle.ix_wire.proofs.laws.a_fallen_number_is_refused.Goals as goal

pub returns : goal.returns
returns c = a_fallen_number_is_refused
