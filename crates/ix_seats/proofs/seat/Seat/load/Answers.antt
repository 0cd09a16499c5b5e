use Rattle.std.proofs.Common.{IfSome, sym, subst}
use Rattle.ix_seats.specs.Seated.{Seated}
use Rattle.ix_seats.specs.Seats.{IsSeat}
use Rattle.ix_seats.proofs.Keeping.{AreThis, loaded-safe, loaded-seat}
use Rattle.ix_seats.proofs.seat.Seat.load.Goals as goal

pub returns-clause-seat : goal.returns-clause-seat
returns-clause-seat c = λ seen is given.
    loaded-seat (record { stays_open = c.loading_keeps_asks_open.ensures.over; stays_safe = c.loading_keeps_asks_open.ensures.safe }) c.bodies_of_units_hold.ensures.one
    seen c.self.inside.lane c.loaded.new.self _ c.self.inside.ask c.args.name c.args.body.value c.loaded.ensures.progress c.loaded.ensures.added c.loaded.ensures.others
    (subst (λ (s : Seated). IfSome s.lane.progress.held (λ mark. AreThis (seen mark) c.args.name c.args.body.value)) (sym c.self.view_is) given.1)
    (subst (λ (s : Seated). IsSeat seen s) (sym c.self.view_is) is)

pub invariant_of-self : goal.invariant_of-self
invariant_of-self c =
    loaded-safe (record { stays_open = c.loading_keeps_asks_open.ensures.over; stays_safe = c.loading_keeps_asks_open.ensures.safe })
    c.self.inside.lane c.loaded.new.self c.self.inside.ask c.args.name c.args.body.value c.loaded.ensures.progress c.loaded.ensures.added c.loaded.ensures.others c.self.invariant
