use Rattle.ix_dir.proofs.StampsApart.{fresh_renamed, fresh_removed, fresh_synced}
use Rattle.ix_dir.proofs.laws.stamps_stay_fresh.Goals as goal

pub returns-clause-renamed : goal.returns-clause-renamed
returns-clause-renamed c moves area name bytes stamp apart fresh = fresh_renamed moves area name bytes stamp apart fresh

pub returns-clause-removed : goal.returns-clause-removed
returns-clause-removed c moves area name apart = fresh_removed moves area name apart

pub returns-clause-synced : goal.returns-clause-synced
returns-clause-synced c moves area apart = fresh_synced moves area apart
