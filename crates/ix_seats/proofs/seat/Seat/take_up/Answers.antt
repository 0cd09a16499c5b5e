use Rattle.std.proofs.Common.{◌≡◌, Some, IfSome, sym, subst}
use Rattle.ix_needs.specs.Premises.{Holds}
use Rattle.ix_lanes.specs.Progress.{told}
use Rattle.ix_seats.specs.Seated.{Seated}
use Rattle.ix_seats.proofs.Telling.{taken-up-seat}
use Rattle.ix_seats.proofs.seat.Seat.take_up.Goals as goal

pub returns-clause-seat : goal.returns-clause-seat
returns-clause-seat c = λ seen is given.
    let outcome = c.args.outcome in
    taken-up-seat seen outcome c.self.inside.lane c.end.new.self c.answers_are_sorted_sets.ensures.texts c.bodies_of_units_hold.ensures.none given.0 c.args.version.value
    (record { progress = c.end.ensures.progress; bodies = c.end.ensures.bodies; names = c.end.ensures.names; version_is = c.end.ensures.version; ask = c.end.ensures.ask })
    (subst (λ (s : Seated). (told outcome s.lane.progress).held ≡ Some given.0) (sym c.self.view_is) given.1) given.2
    (subst (λ (s : Seated). IfSome s.lane.progress.held (λ mark. Holds (seen mark) s.lane.bodies)) (sym c.self.view_is) is.bodies)
