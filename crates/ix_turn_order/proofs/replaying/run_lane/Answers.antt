use Rattle.std.proofs.Common.{◌⊎◌, inl, inr, [], Bool, subst}
use Rattle.ix_replays.specs.Run.{Run}
use Rattle.ix_turn_order.proofs.Loops.{Makes, lane_ends, lane_goes_on, makes_both, is_wanting, on_err}
use Rattle.ix_turn_order.proofs.replaying.run_lane.Goals as goal

pub loop-event-init : goal.loop-event-init
loop-event-init g c = record {
  can = c.requires;
  turns = λ first tasks start whole within r. r;
  counted = c.counts_add_up.ensures.none (g.S.Stepper.events c.args.stepper.now) (g.S.Stepper.counts c.args.stepper.now);
}

pub loop-event-preserved : goal.loop-event-preserved
loop-event-preserved g c = record {
  can = c.in_ok-made.ensures.can;
  turns = λ first tasks start whole within r.
      lane_goes_on g.S.Stepper.name_of tasks (λ (run : Run). g.S.Stepper.stands c.loop-event.stepper tasks run × g.S.Stepper.leaves first start c.loop-event.stepper run) (λ (run : Run). g.S.Stepper.stands c.step.new.self tasks run × g.S.Stepper.leaves first start c.step.new.self run) start whole
      (λ run next lane made low comes ended goes. c.steps_are_turns.ensures.first g.S.Stepper.name_of tasks start run next whole lane made low comes ended goes)
      (c.ended_lanes_stay_ended.ensures.stay g.S.Stepper.name_of tasks) c.args.lane c.in_ok-made.made within (makes_both g.S.Stepper.name_of tasks (g.S.Stepper.stands c.loop-event.stepper tasks) (g.S.Stepper.leaves first start c.loop-event.stepper) (g.S.Stepper.stands c.step.new.self tasks) (g.S.Stepper.leaves first start c.step.new.self) c.args.lane c.in_ok-made.made (c.in_ok-made.ensures.step first start tasks))
      (c.loop-event.invariant.turns first tasks start whole within r);
  counted = c.counts_add_up.ensures.joined (g.S.Stepper.events c.args.stepper.now) (g.S.Stepper.events c.loop-event.stepper) (g.S.Stepper.events c.step.new.self)
      (g.S.Stepper.counts c.args.stepper.now) (g.S.Stepper.counts c.loop-event.stepper) (g.S.Stepper.counts c.step.new.self) c.loop-event.invariant.counted c.in_ok-made.ensures.counted;
}

pub returns-then-not-made-clause-turns : goal.returns-then-not-made-clause-turns
returns-then-not-made-clause-turns g c first tasks start whole within r =
    lane_ends g.S.Stepper.name_of tasks (λ (run : Run). g.S.Stepper.stands c.loop-event.stepper tasks run × g.S.Stepper.leaves first start c.loop-event.stepper run) (λ (run : Run). g.S.Stepper.stands c.step.new.self tasks run × g.S.Stepper.leaves first start c.step.new.self run) start whole
    (λ run next lane made low comes ended goes. c.steps_are_turns.ensures.first g.S.Stepper.name_of tasks start run next whole lane made low comes ended goes)
    (c.ended_lanes_stay_ended.ensures.stay g.S.Stepper.name_of tasks) c.args.lane within
    (subst (λ (b : Bool). Makes g.S.Stepper.name_of tasks (λ (run : Run). g.S.Stepper.stands c.loop-event.stepper tasks run × g.S.Stepper.leaves first start c.loop-event.stepper run) (λ (run : Run). g.S.Stepper.stands c.step.new.self tasks run × g.S.Stepper.leaves first start c.step.new.self run) c.args.lane b) c.if-not-made.true
    (makes_both g.S.Stepper.name_of tasks (g.S.Stepper.stands c.loop-event.stepper tasks) (g.S.Stepper.leaves first start c.loop-event.stepper) (g.S.Stepper.stands c.step.new.self tasks) (g.S.Stepper.leaves first start c.step.new.self) c.args.lane c.in_ok-made.made (c.in_ok-made.ensures.step first start tasks)))
    (c.loop-event.invariant.turns first tasks start whole within r)

pub returns-then-not-made-clause-counted : goal.returns-then-not-made-clause-counted
returns-then-not-made-clause-counted g c =
    c.counts_add_up.ensures.joined (g.S.Stepper.events c.args.stepper.now) (g.S.Stepper.events c.loop-event.stepper) (g.S.Stepper.events c.step.new.self)
    (g.S.Stepper.counts c.args.stepper.now) (g.S.Stepper.counts c.loop-event.stepper) (g.S.Stepper.counts c.step.new.self) c.loop-event.invariant.counted c.in_ok-made.ensures.counted

pub returns-in_err-made-clause-wanting : goal.returns-in_err-made-clause-wanting
returns-in_err-made-clause-wanting g c first tasks start whole within r =
    on_err _ _
    (is_wanting g.S.Stepper.name_of tasks (λ (run : Run). g.S.Stepper.stands c.loop-event.stepper tasks run × g.S.Stepper.leaves first start c.loop-event.stepper run) (λ (run : Run). g.S.Stepper.stands c.step.new.self tasks run ⊎ g.S.Stepper.wants c.step.new.self run) start whole [] c.args.lane
    (λ run both. inr (c.in_err-made.ensures.wanting tasks run both.0)) (c.loop-event.invariant.turns first tasks start whole within r))

pub returns-clause-wanting : goal.returns-clause-wanting
returns-clause-wanting g c first tasks start whole within r =
    is_wanting g.S.Stepper.name_of tasks (λ (run : Run). g.S.Stepper.stands c.loop-event.stepper tasks run × g.S.Stepper.leaves first start c.loop-event.stepper run) (λ (run : Run). g.S.Stepper.stands c.loop-event.stepper tasks run ⊎ g.S.Stepper.wants c.loop-event.stepper run) start whole [] c.args.lane (λ run both. inl both.0) (c.loop-event.invariant.turns first tasks start whole within r)
