use Rattle.ix_wire.proofs.Numbers.{rising_numbers_are_read}
use Rattle.ix_wire.proofs.laws.rising_numbers_are_read.Goals as goal

pub returns : goal.returns
returns c = rising_numbers_are_read
