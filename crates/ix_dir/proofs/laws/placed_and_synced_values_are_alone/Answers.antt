use Rattle.ix_dir.proofs.InOtherWords.{placed_alone, synced_alone}
use Rattle.ix_dir.proofs.laws.placed_and_synced_values_are_alone.Goals as goal

pub returns-clause-placed : goal.returns-clause-placed
returns-clause-placed c moves move area name is = placed_alone moves move area name is

pub returns-clause-synced : goal.returns-clause-synced
returns-clause-synced c moves move area name is = synced_alone moves move area name is
