use Rattle.std.proofs.Common.{subst}
use Rattle.ix_seats.specs.declared.made.Made.{Made}
use Rattle.ix_seats.specs.Made.{IsGiven}
use Rattle.ix_seats.proofs.Telling.{ended-seat}
use Rattle.ix_seats.proofs.seat.Seat.tell.Goals as goal

pub returns-in-Ended-clause-seat : goal.returns-in-Ended-clause-seat
returns-in-Ended-clause-seat c = λ seen is given.
    let before = c.args.self.now in
    ended-seat seen c.in-Ended.outcome before.lane c.end.new.self before.version before.ask
    (record { progress = c.end.ensures.progress; bodies = c.end.ensures.bodies; names = c.end.ensures.names; version_is = c.end.ensures.version; ask = c.end.ensures.ask })
    (subst (λ (made : Made). IsGiven seen before.lane.progress made) c.in-Ended.is given) is
