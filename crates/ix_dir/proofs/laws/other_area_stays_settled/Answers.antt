use Rattle.ix_dir.proofs.ValuesAfterAChange.{settled_renamed, settled_removed, settled_synced}
use Rattle.ix_dir.proofs.laws.other_area_stays_settled.Goals as goal

pub returns-clause-renamed : goal.returns-clause-renamed
returns-clause-renamed c moves area name bytes stamp a other settled = settled_renamed moves area name bytes stamp a other settled

pub returns-clause-removed : goal.returns-clause-removed
returns-clause-removed c moves area name a other settled = settled_removed moves area name a other settled

pub returns-clause-synced : goal.returns-clause-synced
returns-clause-synced c moves area a other settled = settled_synced moves area a other settled
