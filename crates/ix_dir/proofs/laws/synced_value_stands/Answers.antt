use Rattle.ix_dir.proofs.ValuesStood.{synced_stands}
use Rattle.ix_dir.proofs.laws.synced_value_stands.Goals as goal

pub returns : goal.returns
returns c moves area name = synced_stands moves area name
