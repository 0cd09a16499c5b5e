use Rattle.std.proofs.Common.{sym, subst}
use Rattle.ix_seats.specs.Seated.{Seated}
use Rattle.ix_seats.specs.Seats.{IsSeat}
use Rattle.ix_seats.proofs.Keeping.{moved-seat}
use Rattle.ix_seats.proofs.seat.Seat.make_room.Goals as goal

pub returns-clause-seat : goal.returns-clause-seat
returns-clause-seat c = λ seen is.
    moved-seat (record { stays_open = c.loading_keeps_asks_open.ensures.over; stays_safe = c.loading_keeps_asks_open.ensures.safe }) seen c.self.inside.lane c.reserve.new.self _ c.self.inside.ask
    c.reserve.ensures.progress c.reserve.ensures.bodies (subst (λ (s : Seated). IsSeat seen s) (sym c.self.view_is) is)
