use Rattle.ix_dir.proofs.laws.a_pick_leaves_these.Goals as goal

pub returns-clause-names : goal.returns-clause-names
returns-clause-names c pick moves left area i name picked is = (picked area).picked i name is

pub returns-clause-others : goal.returns-clause-others
returns-clause-others c pick moves left area name picked none = (picked area).no_other name none

pub returns-clause-settled : goal.returns-clause-settled
returns-clause-settled c moves area settled = settled area
