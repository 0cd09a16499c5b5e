use Rattle.ix_dir.proofs.InOtherWords.{rename_left, rename_fresh}
use Rattle.ix_dir.proofs.laws.renames_are_changes.Goals as goal

pub returns-clause-left : goal.returns-clause-left
returns-clause-left c old now area name bytes renames = rename_left old now area name bytes renames

pub returns-clause-fresh : goal.returns-clause-fresh
returns-clause-fresh c old now area name bytes renames apart = rename_fresh old now area name bytes renames apart
