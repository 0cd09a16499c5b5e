use Rattle.std.proofs.Common.{◌≡◌, ◌∙◌, None, sym, subst}
use Rattle.std.specs.List.{AllByRecursion}
use Rattle.std.proofs.lemmas.Iterator.Adapters.{YieldsList-from_vec}
use Rattle.std.proofs.lemmas.Iterator.Consumers.{YieldsList-end}
use Rattle.std.proofs.lemmas.List.{map-id}
use Rattle.ix_lanes.specs.Views.{Under}
use Rattle.ix_seats.specs.Seats.{IsSeat}
use Rattle.ix_replay.proofs.Seating.{lanes_more, seats_more}
use Rattle.ix_replay.proofs.runner.seats_of.Goals as goal

pub loop-lane-preserved : goal.loop-lane-preserved
loop-lane-preserved c = record {
  lanes = lanes_more c.loop-lane.seats.items c.push.new.self.items c.loop-lane.yielded c.in-Some.lane c.of.result c.in_ok-push.ensures.items c.of.ensures.lane c.loop-lane.invariant.lanes;
  sit = λ seen. seats_more (IsSeat seen) (λ (lane : Under). lane.progress.held ≡ None) c.loop-lane.seats.items c.push.new.self.items c.loop-lane.yielded c.in-Some.lane c.of.result c.in_ok-push.ensures.items
      (c.of.ensures.seat seen) (c.loop-lane.invariant.sit seen);
}

pub returns-clause-sit : goal.returns-clause-sit
returns-clause-sit c seen =
    let all = YieldsList-end
    (YieldsList-from_vec {s = c.into_iter-lane-iterator.result} c.args.lanes.items c.into_iter-lane-iterator.ensures.into_iter_gives.0 (c.into_iter-lane-iterator.ensures.into_iter_gives.1 ∙ c.args.lanes.ok.0))
    c.loop-lane.yielded c.loop-lane.lane-iterator c.loop-lane.yielded_by c.next.result c.next.new.self c.in-None.is c.next.ensures.steps in
    subst (λ (lanes : _). AllByRecursion (λ (lane : Under). lane.progress.held ≡ None) lanes → AllByRecursion (IsSeat seen) c.loop-lane.seats.items)
    (sym (map-id c.loop-lane.yielded) ∙ all.0) (c.loop-lane.invariant.sit seen)
