use Rattle.std.proofs.Common.{◌⊎◌, inr, drop, get_or, refl}
use Rattle.ix_replays.specs.Run.{Run}
use Rattle.ix_turn_order.proofs.Loops.{is_wanting, makes_both, on_err, order_done, order_goes_on}
use Rattle.ix_turn_order.proofs.replaying.run_order.Goals as goal

pub loop-lane-init : goal.loop-lane-init
loop-lane-init g c = record {
  can = c.requires;
  turns = λ first tasks start whole r. r;
  counted = c.counts_add_up.ensures.none (g.S.Stepper.events c.args.stepper.now) (g.S.Stepper.counts c.args.stepper.now);
}

pub loop-lane-preserved : goal.loop-lane-preserved
loop-lane-preserved g c = record {
  can = c.in_ok-_made.ensures.can;
  turns = λ first tasks start whole r.
      order_goes_on g.S.Stepper.name_of tasks (λ (run : Run). g.S.Stepper.stands c.loop-lane.stepper tasks run × g.S.Stepper.leaves first start c.loop-lane.stepper run) (λ (run : Run). g.S.Stepper.stands c.step.new.self tasks run × g.S.Stepper.leaves first start c.step.new.self run) start whole
      (λ run next rest lane made comes goes. c.steps_are_turns.ensures.ordered g.S.Stepper.name_of tasks start run next whole rest lane made comes goes)
      c.args.order.now c.loop-lane.lane-index 0 (get_or c.args.order.now c.loop-lane.lane-index 0) c.in_ok-_made._made c.loop-lane-test.true refl (makes_both g.S.Stepper.name_of tasks (g.S.Stepper.stands c.loop-lane.stepper tasks) (g.S.Stepper.leaves first start c.loop-lane.stepper) (g.S.Stepper.stands c.step.new.self tasks) (g.S.Stepper.leaves first start c.step.new.self) (get_or c.args.order.now c.loop-lane.lane-index 0) c.in_ok-_made._made (c.in_ok-_made.ensures.step first start tasks)) (c.loop-lane.invariant.turns first tasks start whole r);
  counted = c.counts_add_up.ensures.joined (g.S.Stepper.events c.args.stepper.now) (g.S.Stepper.events c.loop-lane.stepper) (g.S.Stepper.events c.step.new.self)
      (g.S.Stepper.counts c.args.stepper.now) (g.S.Stepper.counts c.loop-lane.stepper) (g.S.Stepper.counts c.step.new.self) c.loop-lane.invariant.counted c.in_ok-_made.ensures.counted;
}

pub returns-clause-turns : goal.returns-clause-turns
returns-clause-turns g c first tasks start whole r =
    order_done g.S.Stepper.name_of tasks (λ (run : Run). g.S.Stepper.stands c.loop-lane.stepper tasks run × g.S.Stepper.leaves first start c.loop-lane.stepper run) start whole c.args.order.now c.loop-lane.lane-index c.loop-lane-test.false
    (c.loop-lane.invariant.turns first tasks start whole r)

pub returns-in_err-_made-clause-wanting : goal.returns-in_err-_made-clause-wanting
returns-in_err-_made-clause-wanting g c first tasks start whole r =
    on_err _ _
    (is_wanting g.S.Stepper.name_of tasks (λ (run : Run). g.S.Stepper.stands c.loop-lane.stepper tasks run × g.S.Stepper.leaves first start c.loop-lane.stepper run) (λ (run : Run). g.S.Stepper.stands c.step.new.self tasks run ⊎ g.S.Stepper.wants c.step.new.self run) start whole (drop c.loop-lane.lane-index c.args.order.now) 0
    (λ run both. inr (c.in_err-_made.ensures.wanting tasks run both.0)) (c.loop-lane.invariant.turns first tasks start whole r))
