use Rattle.ix_dir.proofs.WhatAChangeLeaves.{added_move, added_removal, added_none, added_both}
use Rattle.ix_dir.proofs.InOtherWords.{told_alike, front_stays}
use Rattle.ix_dir.proofs.laws.calls_add_moves.Goals as goal

pub returns-clause-added : goal.returns-clause-added
returns-clause-added c moves move = added_move moves move

pub returns-clause-removed : goal.returns-clause-removed
returns-clause-removed c moves area name = added_removal moves area name

pub returns-clause-same : goal.returns-clause-same
returns-clause-same c moves = added_none moves

pub returns-clause-both : goal.returns-clause-both
returns-clause-both c first second third a b = added_both first second third a b

pub returns-clause-told : goal.returns-clause-told
returns-clause-told c before now adds = told_alike before now adds

pub returns-clause-front : goal.returns-clause-front
returns-clause-front c before now adds = front_stays before now adds
