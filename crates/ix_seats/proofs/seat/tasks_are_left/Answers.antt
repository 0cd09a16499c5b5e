use Rattle.ix_seats.proofs.Left.{all-left, follow-left, then-left}
use Rattle.ix_seats.proofs.seat.tasks_are_left.Goals as goal

pub returns-clause-all : goal.returns-clause-all
returns-clause-all c = all-left

pub returns-clause-follow : goal.returns-clause-follow
returns-clause-follow c = follow-left

pub returns-clause-more : goal.returns-clause-more
returns-clause-more c = then-left
