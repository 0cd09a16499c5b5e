use Rattle.ix_machine.proofs.Counted.{all_made, none_synced, synced_last, mark_is, made_of, none_acknowledged, acknowledged_of}
use Rattle.ix_machine.proofs.laws.acknowledged_changes_are_synced.Goals as goal

pub returns-clause-made : goal.returns-clause-made
returns-clause-made c = all_made

pub returns-clause-unsynced : goal.returns-clause-unsynced
returns-clause-unsynced c = none_synced

pub returns-clause-synced : goal.returns-clause-synced
returns-clause-synced c = synced_last

pub returns-clause-marks : goal.returns-clause-marks
returns-clause-marks c = mark_is

pub returns-clause-made_of : goal.returns-clause-made_of
returns-clause-made_of c = made_of

pub returns-clause-none_acknowledged : goal.returns-clause-none_acknowledged
returns-clause-none_acknowledged c = none_acknowledged

pub returns-clause-acknowledged_of : goal.returns-clause-acknowledged_of
returns-clause-acknowledged_of c = acknowledged_of
