use Rattle.ix_replays.specs.Run.{Run, fresh, lanes_of}
use Rattle.ix_turn_order.proofs.Loops.{lanes_counted, on_err, script_begins, script_ends}
use Rattle.ix_turn_order.proofs.replaying.run_script.Goals as goal

pub returns-clause-replayed : goal.returns-clause-replayed
returns-clause-replayed g c script opening same count stands left =
    let name_of = g.S.Stepper.name_of in
    let lanes = lanes_of name_of script in
    let start = fresh name_of script opening in
    let first = c.args.stepper.now in
    let begins = c.steps_are_turns.ensures.begins name_of lanes start script.order (c.runs_keep_their_marks.ensures.begun name_of script opening) in
    let begun = script_begins name_of script opening (λ (run : Run). g.S.Stepper.stands first lanes run × g.S.Stepper.leaves first start first run) c.args.order.now same begins (stands, left) in
    let ordered = c.in_ok-run_order.ensures.turns first lanes start script.order begun in
    let rest = c.in_ok-run_rest.ensures.turns first lanes start script.order (lanes_counted name_of script c.args.lanes count) ordered in
    let ended = script_ends name_of script opening (λ (run : Run). g.S.Stepper.stands c.run_rest.new.stepper lanes run × g.S.Stepper.leaves first start c.run_rest.new.stepper run) c.args.lanes count (c.replays_end.ensures name_of script opening) rest in
    (ended.0, ended.1.0, ended.1.1, ended.2, ended.3.0, ended.3.1)

pub returns-in_err-run_order-clause-wanting : goal.returns-in_err-run_order-clause-wanting
returns-in_err-run_order-clause-wanting g c script opening same count stands left =
    let name_of = g.S.Stepper.name_of in
    let lanes = lanes_of name_of script in
    let start = fresh name_of script opening in
    let first = c.args.stepper.now in
    let begins = c.steps_are_turns.ensures.begins name_of lanes start script.order (c.runs_keep_their_marks.ensures.begun name_of script opening) in
    let begun = script_begins name_of script opening (λ (run : Run). g.S.Stepper.stands first lanes run × g.S.Stepper.leaves first start first run) c.args.order.now same begins (stands, left) in
    on_err _ _ (c.in_err-run_order.ensures.wanting first lanes start script.order begun)

pub returns-in_err-run_rest-clause-wanting : goal.returns-in_err-run_rest-clause-wanting
returns-in_err-run_rest-clause-wanting g c script opening same count stands left =
    let name_of = g.S.Stepper.name_of in
    let lanes = lanes_of name_of script in
    let start = fresh name_of script opening in
    let first = c.args.stepper.now in
    let begins = c.steps_are_turns.ensures.begins name_of lanes start script.order (c.runs_keep_their_marks.ensures.begun name_of script opening) in
    let begun = script_begins name_of script opening (λ (run : Run). g.S.Stepper.stands first lanes run × g.S.Stepper.leaves first start first run) c.args.order.now same begins (stands, left) in
    let ordered = c.in_ok-run_order.ensures.turns first lanes start script.order begun in
    on_err _ _ (c.in_err-run_rest.ensures.wanting first lanes start script.order (lanes_counted name_of script c.args.lanes count) ordered)

pub returns-clause-counted : goal.returns-clause-counted
returns-clause-counted g c =
    c.counts_add_up.ensures.joined (g.S.Stepper.events c.args.stepper.now) (g.S.Stepper.events c.run_order.new.stepper) (g.S.Stepper.events c.run_rest.new.stepper)
    (g.S.Stepper.counts c.args.stepper.now) (g.S.Stepper.counts c.run_order.new.stepper) (g.S.Stepper.counts c.run_rest.new.stepper) c.in_ok-run_order.ensures.counted c.in_ok-run_rest.ensures.counted
