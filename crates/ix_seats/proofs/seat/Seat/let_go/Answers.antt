use Rattle.std.proofs.Common.{◌≡◌, None, sym, subst}
use Rattle.ix_lanes.specs.Progress.{told}
use Rattle.ix_seats.specs.Seated.{Seated}
use Rattle.ix_seats.proofs.Telling.{let-go-seat}
use Rattle.ix_seats.proofs.seat.Seat.let_go.Goals as goal

pub returns-clause-seat : goal.returns-clause-seat
returns-clause-seat c = λ seen is given.
    let outcome = c.args.outcome in
    let-go-seat seen outcome c.self.inside.lane c.end.new.self
    (record { progress = c.end.ensures.progress; bodies = c.end.ensures.bodies; names = c.end.ensures.names; version_is = c.end.ensures.version; ask = c.end.ensures.ask })
    (subst (λ (s : Seated). (told outcome s.lane.progress).held ≡ None) (sym c.self.view_is) given)
