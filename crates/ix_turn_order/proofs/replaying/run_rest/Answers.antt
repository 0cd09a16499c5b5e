use Rattle.std.proofs.Common.{◌≡◌, ℕ, [], subst, arith}
use Rattle.ix_replays.specs.Run.{Run}
use Rattle.ix_turn_order.specs.Order.{IsReplaying}
use Rattle.ix_turn_order.proofs.Loops.{on_err}
use Rattle.ix_turn_order.proofs.replaying.run_rest.Goals as goal

pub loop-lane-init : goal.loop-lane-init
loop-lane-init g c = record {
  can = c.requires;
  turns = λ first tasks start whole count r. r;
  counted = c.counts_add_up.ensures.none (g.S.Stepper.events c.args.stepper.now) (g.S.Stepper.counts c.args.stepper.now);
}

pub loop-lane-preserved : goal.loop-lane-preserved
loop-lane-preserved g c = record {
  can = c.in_ok-run_lane.ensures.can;
  turns = λ first tasks start whole count r. c.in_ok-run_lane.ensures.turns first tasks start whole (let low = c.loop-lane-test.true in omega (arith, count, low)) (c.loop-lane.invariant.turns first tasks start whole count r);
  counted = c.counts_add_up.ensures.joined (g.S.Stepper.events c.args.stepper.now) (g.S.Stepper.events c.loop-lane.stepper) (g.S.Stepper.events c.run_lane.new.stepper)
      (g.S.Stepper.counts c.args.stepper.now) (g.S.Stepper.counts c.loop-lane.stepper) (g.S.Stepper.counts c.run_lane.new.stepper) c.loop-lane.invariant.counted c.in_ok-run_lane.ensures.counted;
}

pub returns-clause-turns : goal.returns-clause-turns
returns-clause-turns g c first tasks start whole count r =
    let all : c.loop-lane.lane ≡ c.args.lanes = (let end = c.loop-lane-test.false in let most = c.loop-lane.auto.lane-end in omega (arith, end, most)) in
    subst (λ (n : ℕ). IsReplaying g.S.Stepper.name_of tasks (λ (run : Run). g.S.Stepper.stands c.loop-lane.stepper tasks run × g.S.Stepper.leaves first start c.loop-lane.stepper run) start whole [] n) all (c.loop-lane.invariant.turns first tasks start whole count r)

pub returns-in_err-run_lane-clause-wanting : goal.returns-in_err-run_lane-clause-wanting
returns-in_err-run_lane-clause-wanting g c first tasks start whole count r =
    on_err _ _ (c.in_err-run_lane.ensures.wanting first tasks start whole (let low = c.loop-lane-test.true in omega (arith, count, low)) (c.loop-lane.invariant.turns first tasks start whole count r))
