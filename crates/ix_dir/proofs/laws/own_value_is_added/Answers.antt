use Rattle.ix_dir.proofs.ValuesAfterAChange.{own_renamed, own_removed}
use Rattle.ix_dir.proofs.laws.own_value_is_added.Goals as goal

pub returns-clause-renamed : goal.returns-clause-renamed
returns-clause-renamed c moves area name bytes stamp = own_renamed moves area name bytes stamp

pub returns-clause-removed : goal.returns-clause-removed
returns-clause-removed c moves area name there = own_removed moves area name there
