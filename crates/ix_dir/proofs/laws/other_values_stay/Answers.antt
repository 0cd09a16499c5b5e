use Rattle.ix_dir.proofs.ValuesAfterAChange.{other_renamed, other_removed, other_synced}
use Rattle.ix_dir.proofs.laws.other_values_stay.Goals as goal

pub returns-clause-renamed : goal.returns-clause-renamed
returns-clause-renamed c moves area name bytes stamp a n other = other_renamed moves area name bytes stamp a n other

pub returns-clause-removed : goal.returns-clause-removed
returns-clause-removed c moves area name a n other = other_removed moves area name a n other

pub returns-clause-synced : goal.returns-clause-synced
returns-clause-synced c moves area a n other = other_synced moves area a n other
