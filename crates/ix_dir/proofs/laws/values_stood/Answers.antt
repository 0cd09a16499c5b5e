use Rattle.ix_dir.proofs.ValuesStood.{all_stood}
use Rattle.ix_dir.proofs.laws.values_stood.Goals as goal

pub returns : goal.returns
returns c moves area name value there = all_stood moves area name value there
