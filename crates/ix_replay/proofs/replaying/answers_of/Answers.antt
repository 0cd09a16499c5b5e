use Rattle.std.proofs.Common.{◌≡◌, ◌∙◌, List, map, sym, subst}
use Rattle.std.specs.List.{AllByRecursion}
use Rattle.std.proofs.lemmas.Iterator.Adapters.{YieldsList-from_vec}
use Rattle.std.proofs.lemmas.Iterator.Consumers.{YieldsList-end}
use Rattle.std.proofs.lemmas.List.{map-id}
use Rattle.ix_lanes.specs.Progress.{settled}
use Rattle.ix_seats.specs.Seated.{Seated}
use Rattle.ix_seats.specs.Seats.{IsSeat}
use Rattle.ix_replay.proofs.Answering.{answers_more}
use Rattle.ix_replay.proofs.replaying.answers_of.Goals as goal

pub loop-seat-preserved : goal.loop-seat-preserved
loop-seat-preserved c seen =
    answers_more seen c.loop-seat.yielded c.in-Some.seat c.loop-seat.answers.items c.push.new.self.items c.in_ok-own.own (c.in_ok-own.ensures seen) c.in_ok-push.ensures.items (c.loop-seat.invariant seen)

pub returns : goal.returns
returns c seen sit =
    let all = YieldsList-end
    (YieldsList-from_vec {s = c.into_iter-seat-iterator.result} c.args.seats.items c.into_iter-seat-iterator.ensures.into_iter_gives.0 (c.into_iter-seat-iterator.ensures.into_iter_gives.1 ∙ c.args.seats.ok.0))
    c.loop-seat.yielded c.loop-seat.seat-iterator c.loop-seat.yielded_by c.next.result c.next.new.self c.in-None.is c.next.ensures.steps in
    c.of.ensures ∙ subst (λ (seats : List Seated). AllByRecursion (IsSeat seen) seats → c.loop-seat.answers.items ≡ map (λ (seat : Seated). (settled seen seat.lane.progress).answers) seats)
    (sym (map-id c.loop-seat.yielded) ∙ all.0) (c.loop-seat.invariant seen) sit
