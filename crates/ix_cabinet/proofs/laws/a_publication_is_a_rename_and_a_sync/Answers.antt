use Rattle.ix_cabinet.proofs.Publications.{synced, unsynced}
use Rattle.ix_cabinet.proofs.laws.a_publication_is_a_rename_and_a_sync.Goals as goal

pub returns-clause-synced : goal.returns-clause-synced
returns-clause-synced c name bytes before now p = synced name bytes before now p

pub returns-clause-unsynced : goal.returns-clause-unsynced
returns-clause-unsynced c name bytes before now p = unsynced name bytes before now p
