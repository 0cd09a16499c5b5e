use Rattle.ix_dir.proofs.ValuesStood.{last_stands}
use Rattle.ix_dir.proofs.laws.last_value_stands.Goals as goal

pub returns : goal.returns
returns c moves area name = last_stands moves area name
