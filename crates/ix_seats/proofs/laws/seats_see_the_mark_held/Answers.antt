use Rattle.ix_seats.proofs.Marks.{same-seat, same-lacks, same-settled}
use Rattle.ix_seats.proofs.laws.seats_see_the_mark_held.Goals as goal

pub returns-clause-seat : goal.returns-clause-seat
returns-clause-seat c seen other seat agree is = same-seat seen other seat agree is

pub returns-clause-lacks : goal.returns-clause-lacks
returns-clause-lacks c seen other p agree = same-lacks seen other p agree

pub returns-clause-settled : goal.returns-clause-settled
returns-clause-settled c seen other p agree = same-settled seen other p agree
